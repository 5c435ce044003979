-- The lanes' hands on the counters, when they come back.
use Rattle.std.proofs.Common.{◌≡◌, refl, ap, sym, ◌∙◌, subst, ℕ, ◌<◌, ◌≤◌, List, [], ◌∷◌, ◌++◌, length, map, false, true, ℤ, slice_index_or, arith}
use Rattle.sw_base.specs.declared.path.Step.{Step}
use Rattle.kernel_syntax.specs.Tree.{TeamTree}
use Rattle.kernel_model.specs.State.{State}
use Rattle.kernel_model.specs.Trace.{run}
use Rattle.kernel_model.specs.Value.{Site}
use Rattle.kernel_model.specs.declared.phase.Item.{Item}
use Rattle.kernel_model.specs.Parts.{run_parts}
use Rattle.kernel_model.specs.Phases.{parts_in}
use Rattle.atomic_table.specs.Seated.{TableId}
use Rattle.shared_words.specs.declared.share.Share.{Share}
use Rattle.shared_words.specs.declared.view.View.{View}
use Rattle.shared_words.specs.Draws.{AreEachOnce, HasEachOnce, IsFirstAlone, numbers}
use Rattle.shared_words.specs.Handles.{Belongs, HandValue, with_view}
use Rattle.lane_runner.specs.Handed.{LogPlace}
use Rattle.region_runner.specs.Crew.{CrewValue}
use Rattle.region_runner.specs.Drawing.{drawn_by, regained_all}
use Rattle.region_runner.specs.Gathering.{ClosedValue, draws_view}
use Rattle.lane_runner.specs.Lane.{LaneValue}
use Rattle.region_runner.specs.Opening.{AreLanes, AreTorn, lent_hand, lent_to}
use Rattle.region_runner.specs.Stands.{TeamClosed}
use Rattle.region_runner.proofs.JoinedDraws.{gathered_draws, regained_first}
use Rattle.region_runner.proofs.RanRegions.{same_hand}

-- a hand that a lane got, and gives back
pub record IsReturned (table : TableId) (hand : HandValue Share) : Type 0 where
  pub belongs : Belongs hand table
  pub split : hand.view.first ≡ false

pub torn_returned : (table : TableId) (place : LogPlace) (at : List Step) (number span : ℕ) (share : HandValue Share) (lanes : List ClosedValue) → share.table ≡ table → AreTorn place at number span share lanes
    → (k : ℕ) (d : ClosedValue) → k < length lanes → IsReturned table (slice_index_or lanes k d).draws
torn_returned table place at number span share lanes here torn k d less =
    subst (λ (h : HandValue Share). IsReturned table h) (sym (torn.each k d (let n = torn.count in omega (arith, less, n))).draws_are) (record { belongs = record { here = here; there = refl }; split = refl })

-- the first of some
pub head_of : {A : Type 0} (xs : List A) → 1 ≤ length xs → A
head_of [] some = absurd (omega (arith, some))
head_of (x ∷ xs) some = x

pub team_returned : (crew : CrewValue) (team : TeamTree) (slots : List ℤ) (items : List (List Item)) (old new : HandValue View) (before : List LaneValue) (place : LogPlace) (at : List Step) (number : ℕ) (share : HandValue Share) (lanes : List ClosedValue)
    → crew.span ≡ team.span → ((site : Site) (s : State) → run_parts site (parts_in items) s ≡ run site team.body s) → TeamClosed crew items team.end old new before lanes → AreLanes place at number team.span slots share before
    → (table : TableId) → share.table ≡ table → (k : ℕ) (e : ClosedValue) → k < length lanes → IsReturned table (slice_index_or lanes k e).draws
team_returned crew team slots items old new before place at number share lanes span_is runs team_closed begin table here k e less =
    let count = team_closed.count in
    let under : k < crew.span = omega (arith, less, count) in
    let d = head_of team_closed.after (let n = team_closed.ran.stands.count in omega (arith, under, n)) in
    let same = same_hand crew team slots items old new before team_closed.after place at number (λ j. lent_hand share) span_is runs team_closed.ran (λ j x inside. begin.each j x (subst (λ (n : ℕ). j < n) span_is inside)) (λ j inside. refl) d k under in
    let closed : (slice_index_or lanes k e).draws ≡ (slice_index_or team_closed.after k d).tally.draws = (team_closed.closes k d e under).3 in
    record {
      belongs = record { here = ap (λ (h : HandValue Share). h.table) closed ∙ same.0 ∙ here; there = ap (λ (h : HandValue Share). h.there) closed ∙ same.1 };
      split = ap (λ (h : HandValue Share). h.view.first) closed ∙ same.2;
    }

-- with all of them joined the first hand has each number once
pub all_returned : (span : ℕ) (share mid new : HandValue Share) (lanes : List ClosedValue) (e : ClosedValue) → length lanes ≡ span → mid ≡ lent_to span share → new ≡ with_view mid (regained_all (map draws_view lanes) mid.view)
    → (IsFirstAlone new.view → HasEachOnce new.view) → (loop : ℕ) → AreEachOnce (numbers loop (drawn_by (λ k. (slice_index_or lanes k e).draws.view.drawn) 0 span))
all_returned span share mid new lanes e count lent joined once loop =
    let whole = gathered_draws lanes e mid new joined in
    let first : new.view.first ≡ true = ap (λ (h : HandValue Share). h.view.first) joined ∙ regained_first (map draws_view lanes) mid.view ∙ ap (λ (h : HandValue Share). h.view.first) lent in
    let out : new.view.out ≡ 0 = let o = whole.1 in let m : mid.view.out ≡ span = ap (λ (h : HandValue Share). h.view.out) lent in omega (arith, o, m, count) in
    let drawn : new.view.drawn ≡ drawn_by (λ k. (slice_index_or lanes k e).draws.view.drawn) 0 span =
    whole.0 ∙ ap (λ (h : HandValue Share). h.view.drawn ++ drawn_by (λ k. (slice_index_or lanes k e).draws.view.drawn) 0 (length lanes)) lent ∙ ap (λ (n : ℕ). drawn_by (λ k. (slice_index_or lanes k e).draws.view.drawn) 0 n) count in
    subst (λ (ds : List (ℕ × ℕ)). AreEachOnce (numbers loop ds)) drawn (once (record { first = first; none_out = out }) loop)
