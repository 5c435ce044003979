-- The logs of a team's lanes, once all are opened or closed.
use Rattle.std.proofs.Common.{◌≡◌, ◌≢◌, ap, sym, ◌∙◌, subst, ℕ, ◌<◌, List, [], length, map, ℤ, Option, Some, None, Result, Ok, Err, slice_index_or, arith}
use Rattle.std.specs.Prelude.{IsErr}
use Rattle.std.proofs.lemmas.List.{get_or-map, length-map}
use Rattle.sw_base.specs.declared.path.Step.{Step}
use Rattle.race_model.specs.Listing.{lane_of}
use Rattle.log_format.specs.declared.format.TheConstants.{FORMAT}
use Rattle.log_format.specs.Format.{log_header}
use Rattle.shared_words.specs.declared.share.Share.{Share}
use Rattle.shared_words.specs.Handles.{HandValue}
use Rattle.lane_runner.specs.declared.stop.Halt.{Halt}
use Rattle.lane_runner.specs.Handed.{HandedEntry, HandsOn, LogPlace}
use Rattle.lane_runner.specs.Drawing.{Tally}
use Rattle.lane_runner.proofs.Handing.{hand_none}
use Rattle.lane_runner.proofs.Halting.{halt_none}
use Rattle.region_runner.specs.Begins.{LaneBegins}
use Rattle.region_runner.specs.Closing.{HasTaken}
use Rattle.region_runner.specs.Gathering.{ClosedValue, region_stop}
use Rattle.lane_runner.specs.Lane.{LaneValue}
use Rattle.region_runner.specs.Opening.{AreLanes, AreTorn, ClosesAs, GaveNothing, OneTorn, OpensAs, lent_hand}

-- ---- a lane whose log was opened and closed

module _ (place : LogPlace) (path : List Step) (slots : List ℤ) (draws : HandValue Share) where
  closed_begun : (m : LaneValue) (c : ClosedValue) → LaneBegins place path slots draws m → ClosesAs (Ok m) c → GaveNothing place path draws c
  closed_begun m c begins closes = record {
    path_is = closes.0 ∙ begins.path_is;
    none_halted = none;
    draws_are = closes.3 ∙ ap (λ (t : Tally). t.draws) begins.tally;
    gave = record {
      task = closes.1.task ∙ sym closes.0;
      dir = closes.1.dir ∙ ap (λ (p : LogPlace). p.dir) begins.place_is;
      own_path = closes.1.own ∙ begins.own ∙ sym (closes.0 ∙ begins.path_is);
      tells = closes.1.tells ∙ ap (λ (p : LogPlace). p.tells) begins.place_is;
      count = closes.1.count ∙ begins.none_put;
      taken = λ text told. subst (λ (n : ℕ). HasTaken c.refused (log_header FORMAT) [] n text) (ap (λ (p : LogPlace). p.size) begins.place_is) (closes.1.taken (log_header FORMAT) [] begins.holds text told);
      failed = closes.1.failed;
      faultless = closes.1.faultless;
      hands =
          subst (λ (es : List HandedEntry). HandsOn place (region_stop c.halt) c.path 0 [] [] es) (sym (closes.2 ∙ begins.none_handed))
          (subst (λ (h : Option Halt). HandsOn place (region_stop h) c.path 0 [] [] []) (sym none) (hand_none place c.path 0 []));
      under = λ below why is. absurd (no_halt (sym none ∙ is));
      refusal = λ trouble is other. absurd (no_halt (sym none ∙ is));
      crowded = λ line is. absurd (no_halt (sym none ∙ is));
    };
  }
    where
      none : c.halt ≡ None
      none = closes.4 ∙ halt_none m begins.going

      no_halt : {h : Halt} → None ≡ Some h → ⊥
      no_halt e = cc

  -- or refused
  gave_nothing : (r : Result LaneValue ClosedValue) (c : ClosedValue) → OpensAs place path slots draws r → ClosesAs r c → GaveNothing place path draws c
  gave_nothing (Ok m) c begins closes = closed_begun m c begins closes
  gave_nothing (Err torn) c gave is = subst (λ (x : ClosedValue). GaveNothing place path draws x) (sym is) gave.0

  was_refused : (r : Result LaneValue ClosedValue) (c : ClosedValue) → OpensAs place path slots draws r → ClosesAs r c → IsErr r → c.refused ≢ None
  was_refused (Ok m) c begins closes torn = absurd cc
  was_refused (Err torn) c gave is _ = subst (λ (x : ClosedValue). x.refused ≢ None) (sym is) gave.1

-- ---- all lanes

module _ (place : LogPlace) (at : List Step) (number span : ℕ) (slots : List ℤ) (share : HandValue Share) (opened : List (Result LaneValue ClosedValue)) (count : length opened ≡ span)
    (opens : (k : ℕ) (d : Result LaneValue ClosedValue) → k < span → OpensAs place (lane_of at number k span) slots (lent_hand share) (slice_index_or opened k d)) where
  pub all_begin : (lanes : List LaneValue) → opened ≡ map (λ m. Ok m) lanes → AreLanes place at number span slots share lanes
  all_begin lanes all = record {
    count = long;
    each = λ k d less.
        subst (λ (r : Result LaneValue ClosedValue). OpensAs place (lane_of at number k span) slots (lent_hand share) r)
        (ap (λ (rs : List (Result LaneValue ClosedValue)). slice_index_or rs k (Ok d)) all ∙ get_or-map (λ (m : LaneValue). Ok m) lanes k d (Ok d) (omega (arith, less, long))) (opens k (Ok d) less);
  }
    where
      long : length lanes ≡ span
      long = sym (length-map lanes (λ (m : LaneValue). Ok m)) ∙ sym (ap (λ (rs : List (Result LaneValue ClosedValue)). length rs) all) ∙ count

  pub one_torn : (lanes : List ClosedValue) → length lanes ≡ length opened → ((k : ℕ) (d : Result LaneValue ClosedValue) (e : ClosedValue) → k < length opened → ClosesAs (slice_index_or opened k d) (slice_index_or lanes k e))
      → OneTorn opened → AreTorn place at number span share lanes
  one_torn lanes long closes one = record {
    count = long ∙ count;
    each = λ k d less. gave_nothing place (lane_of at number k span) slots (lent_hand share) (slice_index_or opened k (Err d)) (slice_index_or lanes k d) (opens k (Err d) less) (closes k (Err d) d (omega (arith, less, count)));
    torn = one.torn;
    within = within;
    refused = λ d.
        was_refused place (lane_of at number one.torn span) slots (lent_hand share) (slice_index_or opened one.torn (Err d)) (slice_index_or lanes one.torn d) (opens one.torn (Err d) within) (closes one.torn (Err d) d one.within)
        (one.refused (Err d));
  }
    where
      within : one.torn < span
      within = let less = one.within in omega (arith, less, count)
