-- A lane whose log was opened, and one whose log refused.
use Rattle.std.proofs.Common.{◌≡◌, ◌≢◌, refl, ap, sym, ◌∙◌, subst, ℕ, ◌+◌, ◌<◌, true, false, List, [], ◌∷◌, ◌++◌, length, ℤ, Option, Some, None, Result, slice_index_or, arith}
use Rattle.std.specs.Prelude.{Bool, is_some, nat_lt}
use Rattle.std.proofs.lemmas.Bool.{ltb-true, ltb-false}
use Rattle.std.proofs.Math.Seq.{get_or-append_seam}
use Rattle.std.specs.Option.{option_map}
use Rattle.std.proofs.lemmas.List.{append-nil, get_or_append_left}
use Rattle.sw_base.specs.declared.path.Step.{Step}
use Rattle.sw_base.specs.declared.trouble.Trouble.{Trouble}
use Rattle.sw_base.specs.declared.trouble.Trouble.TheVariants.{Failed}
use Rattle.sw_base.specs.Environment.{Text, TearsPiece, WhereTold, empty_text, with_piece}
use Rattle.log_format.specs.declared.format.TheConstants.{FORMAT}
use Rattle.log_format.specs.Format.{log_header}
use Rattle.event_buffer.specs.Buffered.{Buffered}
use Rattle.event_buffer.specs.Logged.{HoldsRecords}
use Rattle.race_model.specs.Listing.{lane_of}
use Rattle.shared_words.specs.declared.share.Share.{Share}
use Rattle.shared_words.specs.Draws.{lent, lent_share}
use Rattle.shared_words.specs.declared.view.View.{View}
use Rattle.shared_words.specs.Handles.{HandValue, with_view}
use Rattle.lane_runner.specs.Going.{Progress}
use Rattle.lane_runner.specs.Handed.{HandedEntry, LogPlace, log_place}
use Rattle.region_runner.specs.Begins.{LaneBegins}
use Rattle.region_runner.specs.Gathering.{ClosedValue}
use Rattle.lane_runner.specs.Lane.{LaneValue}
use Rattle.region_runner.specs.Opening.{GaveNothing, OpensAs, lent_hand, lent_to}
use Rattle.region_runner.proofs.GivenLogs.{gave_nothing}

-- nothing was written of the header
pub nothing_torn : (text : Option Text) (piece : List ℕ) → TearsPiece text text piece
nothing_torn None piece = record { prefix = []; rest = piece; parts = refl; tears = refl }
nothing_torn (Some t) piece = record {
  prefix = [];
  rest = piece;
  parts = refl;
  tears = ap (λ (bytes : List ℕ). Some (record { bytes = bytes; pieces = t.pieces })) (sym (append-nil t.bytes));
}

pub refused_gives : (place : LogPlace) (path : List Step) (c : ClosedValue) (own : HandedEntry) (draws : HandValue Share) (trouble : Trouble) (old_text : Option Text)
    → c ≡ record { path = path; own = own; below = []; halt = None; refused = Some trouble; draws = draws } → own.task ≡ path → own.dir ≡ place.dir → own.path ≡ path → is_some old_text ≡ place.tells
    → WhereTold old_text (λ text. text ≡ empty_text) → TearsPiece old_text own.text (log_header FORMAT) → own.count ≡ 0 → (trouble ≡ Failed → 0 < own.faults) → GaveNothing place path draws c × (c.refused ≢ None)
refused_gives place path c own draws trouble old_text is task dir own_path tells empty torn count failed =
    subst (λ (x : ClosedValue). GaveNothing place path draws x × (x.refused ≢ None)) (sym is) (
      record {
        path_is = refl;
        none_halted = refl;
        draws_are = refl;
        gave = gave_nothing place (record { path = path; own = own; below = []; halt = None; refused = Some trouble; draws = draws }) old_text trouble task dir own_path tells empty torn count refl refl refl failed;
      },
      λ none. cc,
    )

pub lane_begins : (place : LogPlace) (path : List Step) (slots own_slots : List ℤ) (draws : HandValue Share) (hand : HandValue View) (dir : List ℕ) (log_path : List Step) (text : Option Text) (faults size : ℕ) (b : Buffered) (at : Progress) (m : LaneValue)
    → m ≡ record { path = path; locals = own_slots; hand = at.hand; buffer = at.buffer; tally = at.tally; done = at.done; stopped = None } → at ≡ record { hand = hand; buffer = b; tally = record { draws = draws; next_loop = 0; forked = 0 }; done = [] }
    → b ≡ record { dir = dir; path = log_path; text = option_map (with_piece (log_header FORMAT)) text; faults = faults; size = size; sent = []; waiting = []; count = 0; refused = None } → own_slots ≡ slots → log_path ≡ path
    → place ≡ record { dir = dir; size = size; tells = is_some text } → HoldsRecords (log_header FORMAT) b [] → LaneBegins place path slots draws m
lane_begins place path slots own_slots draws hand dir log_path text faults size b at m is at_is b_is same own place_is holds =
    subst (λ (x : LaneValue). LaneBegins place path slots draws x) (sym is)
    (subst (λ (p : Progress). LaneBegins place path slots draws (record { path = path; locals = own_slots; hand = p.hand; buffer = p.buffer; tally = p.tally; done = p.done; stopped = None })) (sym at_is)
    (record {
      path_is = refl;
      locals_are = same;
      going = refl;
      own = ap (λ (x : Buffered). x.path) b_is ∙ own;
      place_is =
          ap (λ (x : Buffered). log_place x) b_is
          ∙ ap (λ (t : Bool). record { dir = dir; size = size; tells = t }) (still text)
          ∙ sym place_is;
      none_put = ap (λ (x : Buffered). x.count) b_is;
      unrefused = ap (λ (x : Buffered). x.refused) b_is;
      holds = holds;
      tally = refl;
      none_handed = refl;
    }))
  where
    still : (o : Option Text) → is_some (option_map (with_piece (log_header FORMAT)) o) ≡ is_some o
    still None = refl
    still (Some t) = refl

-- ---- one lane after another

pub opens_more : (place : LogPlace) (at : List Step) (number span : ℕ) (slots : List ℤ) (draws : HandValue Share) (n : ℕ) (opened : List (Result LaneValue ClosedValue)) (r : Result LaneValue ClosedValue) → length opened ≡ n
    → ((k : ℕ) (d : Result LaneValue ClosedValue) → k < n → OpensAs place (lane_of at number k span) slots draws (slice_index_or opened k d)) → OpensAs place (lane_of at number n span) slots draws r
    → (k : ℕ) (d : Result LaneValue ClosedValue) → k < n + 1 → OpensAs place (lane_of at number k span) slots draws (slice_index_or (opened ++ r ∷ []) k d)
opens_more place at number span slots draws n opened r count so_far next k d less = by (nat_lt k n) refl where
  by : (below : Bool) → nat_lt k n ≡ below → OpensAs place (lane_of at number k span) slots draws (slice_index_or (opened ++ r ∷ []) k d)
  by true below =
      let inside : k < length opened = let l = ltb-true k n below in omega (arith, l, count) in
      subst (λ (x : Result LaneValue ClosedValue). OpensAs place (lane_of at number k span) slots draws x) (sym (get_or_append_left opened (r ∷ []) d k inside)) (so_far k d (ltb-true k n below))
  by false below =
      let same : length opened ≡ k = let past = ltb-false k n below in omega (arith, past, less, count) in
      subst (λ (x : Result LaneValue ClosedValue). OpensAs place (lane_of at number k span) slots draws x) (sym (ap (λ (j : ℕ). slice_index_or (opened ++ r ∷ []) j d) (sym same) ∙ get_or-append_seam opened r [] d))
      (subst (λ (j : ℕ). OpensAs place (lane_of at number j span) slots draws r) (sym count ∙ same) next)

pub lent_more : (n : ℕ) (share old new : HandValue Share) → old ≡ lent_to n share → new ≡ with_view old (lent old.view) → new ≡ lent_to (n + 1) share
lent_more n share old new is kept = kept ∙ ap (λ (h : HandValue Share). with_view h (lent h.view)) is

pub lent_same : (n : ℕ) (share old given : HandValue Share) → old ≡ lent_to n share → given ≡ with_view old lent_share → given ≡ lent_hand share
lent_same n share old given is lends = lends ∙ ap (λ (h : HandValue Share). with_view h lent_share) is
