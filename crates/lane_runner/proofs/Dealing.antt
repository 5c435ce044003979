-- How a lane goes on in a worksharing loop: turns one after another, its share of them, and the loop.
use Rattle.std.proofs.Common.{◌≡◌, ap, sym, ◌∙◌, subst, ℕ, ◌+◌, ◌-◌, ◌*◌, ◌^◌, ◌<◌, ◌≤◌, min, true, List, [], ◌++◌, ℤ, Result, Ok, Err}
use Rattle.std.specs.List.{range_with_len}
use Rattle.kernel_syntax.specs.declared.syntax.Schedule.{Schedule}
use Rattle.kernel_syntax.specs.declared.syntax.Schedule.TheVariants.{Even, Static, Dynamic}
use Rattle.kernel_syntax.specs.Share.{even_share_of}
use Rattle.kernel_syntax.specs.Tree as tree
use Rattle.kernel_syntax.specs.Tree.{Term, Code}
use Rattle.kernel_model.specs.State.{State, Outcome, after, and_then, state_of}
use Rattle.kernel_model.specs.Growth.{Grows}
use Rattle.kernel_model.specs.Value.{Site, value}
use Rattle.kernel_model.specs.Iterations.{total_of, static_iterations, chunk_count, chunk_iterations}
use Rattle.kernel_model.specs.Trace.{run, each, turns, shared}
use Rattle.kernel_model.specs.Effect.{Returned}
use Rattle.kernel_model.proofs.Equations.{run-For}
use Rattle.kernel_model.proofs.Growing.{grows-plain, run-grows, value-grows}
use Rattle.kernel_model.proofs.Joining.{each-append, after-done}
use Rattle.kernel_model.proofs.Shares.{static_from}
use Rattle.kernel_model.proofs.Turns.{turn_grows, each_grows, each-range, DealtBefore, dealt_none, dealt_all, dealt_then, dealt_more}
use Rattle.kernel_model.proofs.Steps.{kept-and_then, kept-after, kept-shared}
use Rattle.lane_runner.specs.declared.stop.Halt.{Halt}
use Rattle.lane_runner.specs.World.{WorldValue}
use Rattle.kernel_model.specs.Drawing.{turn_from, draw_all}
use Rattle.lane_runner.specs.Going.{Progress, CanGo, Made, Goes}
use Rattle.lane_runner.proofs.Following.{goes_stop, goes_then, goes_same}
use Rattle.lane_runner.proofs.Running.{after_stop, after_goes}
use Rattle.lane_runner.proofs.Bodies.{turns_none}

-- ---- turns by a list of iterations

module _ (w : WorldValue) (at : Site) (body : Code) (slot : ℕ) (from : ℤ) where
  pub range_goes : (first count : ℕ) (slots slots' : List ℤ) (old new : Progress) (r : Result (Unit {0}) Halt) → Goes w (turns count first (turn_from at body slot from)) slots slots' old new r
      → Goes w (each (range_with_len first count) (turn_from at body slot from)) slots slots' old new r
  range_goes first count slots slots' old new r goes =
      goes_same w (turns count first (turn_from at body slot from)) (each (range_with_len first count) (turn_from at body slot from)) slots slots' old new
      (λ s. each-range first count (turn_from at body slot from) s) r goes

  each_more : (is js : List ℕ) (slots mid_slots slots' : List ℤ) (old mid new : Progress) (r : Result (Unit {0}) Halt) → Made w (each is (turn_from at body slot from)) slots mid_slots old mid (Returned tt)
      → Goes w (each js (turn_from at body slot from)) mid_slots slots' mid new r → Goes w (each (is ++ js) (turn_from at body slot from)) slots slots' old new r
  each_more is js slots mid_slots slots' old mid new r before goes =
      goes_same w _ (each (is ++ js) (turn_from at body slot from)) slots slots' old new (λ s. each-append is js (turn_from at body slot from) s) r
      (after_goes w (each is (turn_from at body slot from)) (each js (turn_from at body slot from)) slots mid_slots slots' old mid new r before goes)

  each_stop : (is js : List ℕ) (slots slots' : List ℤ) (old new : Progress) (why : Halt) → Goes w (each is (turn_from at body slot from)) slots slots' old new (Err why)
      → Goes w (each (is ++ js) (turn_from at body slot from)) slots slots' old new (Err why)
  each_stop is js slots slots' old new why goes =
      goes_same w _ (each (is ++ js) (turn_from at body slot from)) slots slots' old new (λ s. each-append is js (turn_from at body slot from) s) (Err why)
      (after_stop w (each is (turn_from at body slot from)) (each js (turn_from at body slot from)) slots slots' old new why
      (each_grows at body slot from js) goes)

-- ---- chunks that are dealt in turn

-- The lane's chunks before the one that begins at `first` were made, and no other turns.
pub record MadeChunks (w : WorldValue) (at : Site) (body : Code) (slot : ℕ) (from : ℤ) (chunk total first : ℕ) (slots slots' : List ℤ) (old new : Progress) : Type 0 where
  pub done : List ℕ
  pub dealt : DealtBefore chunk total at.lane at.span first done
  pub made : Made w (each done (turn_from at body slot from)) slots slots' old new (Returned tt)

module _ (w : WorldValue) (at : Site) (body : Code) (slot : ℕ) (from : ℤ) (chunk total : ℕ) (some : 0 < chunk) (within : at.lane < at.span) where
  pub chunks_none : (slots : List ℤ) (p : Progress) → CanGo w p → chunk * at.lane < 2 ^ 64 → MadeChunks w at body slot from chunk total (chunk * at.lane) slots slots p p
  chunks_none slots p can small = record {
    done = [];
    dealt = dealt_none chunk total at.lane at.span some within small;
    made = range_goes w at body slot from 0 0 slots slots p p (Ok tt) (turns_none w at body slot from 0 slots p can);
  }

  module _ (first : ℕ) (slots mid_slots slots' : List ℤ) (old mid new : Progress) (before : MadeChunks w at body slot from chunk total first slots mid_slots old mid) where
    -- all of them were made
    pub chunks_all : total ≤ first → Made w (each (static_iterations chunk total at.lane at.span) (turn_from at body slot from)) slots mid_slots old mid (Returned tt)
    chunks_all past =
        subst (λ (is : List ℕ). Made w (each is (turn_from at body slot from)) slots mid_slots old mid (Returned tt))
        (sym (dealt_all chunk total at.lane at.span some within first before.done before.dealt past)) before.made

    module _ (within_loop : first < total) (small : total < 2 ^ 64) where
      -- one more
      pub chunks_grow : Made w (turns (min chunk (total - first)) first (turn_from at body slot from)) mid_slots slots' mid new (Returned tt)
          → MadeChunks w at body slot from chunk total (min (first + chunk * at.span) (2 ^ 64 - 1)) slots slots' old new
      chunks_grow m = record {
        done = before.done ++ range_with_len first (min chunk (total - first));
        dealt = dealt_more chunk total at.lane at.span some within first before.done before.dealt within_loop small;
        made =
            each_more w at body slot from before.done (range_with_len first (min chunk (total - first))) slots mid_slots slots' old mid new (Ok tt) before.made
            (range_goes w at body slot from first (min chunk (total - first)) mid_slots slots' mid new (Ok tt) m);
      }

      -- the next one stops
      pub chunks_stop : (why : Halt) → Goes w (turns (min chunk (total - first)) first (turn_from at body slot from)) mid_slots slots' mid new (Err why)
          → Goes w (each (static_iterations chunk total at.lane at.span) (turn_from at body slot from)) slots slots' old new (Err why)
      chunks_stop why m =
          let next = range_with_len first (min chunk (total - first)) in
          let later = static_from chunk total at.lane at.span (before.dealt.q + at.span) in
          subst (λ (is : List ℕ). Goes w (each is (turn_from at body slot from)) slots slots' old new (Err why))
          (sym (dealt_then chunk total at.lane at.span some within first before.done before.dealt within_loop small))
          (each_more w at body slot from before.done (next ++ later) slots mid_slots slots' old mid new (Err why) before.made
          (each_stop w at body slot from next later mid_slots slots' mid new why
          (range_goes w at body slot from first (min chunk (total - first)) mid_slots slots' mid new (Err why) m)))

-- ---- by the loop's schedule

module _ (w : WorldValue) (at : Site) (body : Code) (slot : ℕ) (from : ℤ) (line total : ℕ) (slots slots' : List ℤ) (old new : Progress) (r : Result (Unit {0}) Halt) where
  pub shared_even : (schedule : Schedule) (share : ℕ × ℕ) → schedule ≡ Even → share ≡ even_share_of total at.lane at.span
      → Goes w (turns share.1 share.0 (turn_from at body slot from)) slots slots' old new r → Goes w (shared schedule at line total (turn_from at body slot from)) slots slots' old new r
  shared_even schedule share is same m =
      goes_same w (each (range_with_len share.0 share.1) (turn_from at body slot from)) (shared schedule at line total (turn_from at body slot from)) slots slots' old new
      (λ s. ap (λ (k : Schedule). shared k at line total (turn_from at body slot from) s) is ∙ ap (λ (p : ℕ × ℕ). each (range_with_len p.0 p.1) (turn_from at body slot from) s) (sym same)) r
      (range_goes w at body slot from share.0 share.1 slots slots' old new r m)

  pub shared_static : (schedule : Schedule) (chunk : ℕ) → schedule ≡ Static chunk
      → Goes w (each (static_iterations chunk total at.lane at.span) (turn_from at body slot from)) slots slots' old new r
      → Goes w (shared schedule at line total (turn_from at body slot from)) slots slots' old new r
  shared_static schedule chunk is m =
      goes_same w (each (static_iterations chunk total at.lane at.span) (turn_from at body slot from)) (shared schedule at line total (turn_from at body slot from)) slots slots' old new
      (λ s. ap (λ (k : Schedule). shared k at line total (turn_from at body slot from) s) is) r m

  pub shared_drawn : (schedule : Schedule) (chunk : ℕ) → schedule ≡ Dynamic chunk
      → Goes w (draw_all line (chunk_count chunk total) (λ q. each (chunk_iterations chunk total q) (turn_from at body slot from))) slots slots' old new r
      → Goes w (shared schedule at line total (turn_from at body slot from)) slots slots' old new r
  shared_drawn schedule chunk is m =
      goes_same w (draw_all line (chunk_count chunk total) (λ q. each (chunk_iterations chunk total q) (turn_from at body slot from))) (shared schedule at line total (turn_from at body slot from)) slots slots' old new
      (λ s. ap (λ (k : Schedule). shared k at line total (turn_from at body slot from) s) is) r m

-- ---- the loop

module _ (w : WorldValue) (at : Site) (slots : List ℤ) (slot : ℕ) (from to : Term) (schedule : Schedule) (line end : ℕ) (body : Code) where
  abbrev loop_code : Code
  loop_code = tree.For slot from to schedule true line end body tree.Done

  abbrev after_limits : ℤ → ℤ → State → Outcome (Unit {0})
  after_limits a b s = after (shared schedule at line (total_of a b) (turn_from at body slot a) s) (run at tree.Done)

  limits_grow : (a b : ℤ) (s : State) → Grows s (state_of (after_limits a b s))
  limits_grow a b s = kept-after Grows grows-plain s (shared schedule at line (total_of a b) (turn_from at body slot a) s) (run at tree.Done)
      (kept-shared Grows grows-plain schedule at line (total_of a b) (turn_from at body slot a) s (turn_grows at body slot a)) (run-grows at tree.Done)

  abbrev after_first : ℤ → State → Outcome (Unit {0})
  after_first a s = and_then (value at to s) (after_limits a)

  first_grows : (a : ℤ) (s : State) → Grows s (state_of (after_first a s))
  first_grows a s = kept-and_then Grows grows-plain s (value at to s) (after_limits a) (value-grows at to s) (limits_grow a)

  loop_is : (s : State) → run at loop_code s ≡ and_then (value at from s) after_first
  loop_is s = run-For at slot from to schedule true line end body tree.Done s

  pub for_first_stops : (old new : Progress) (why : Halt) → Goes w (value at from) slots slots old new (Err why) → Goes w (run at loop_code) slots slots old new (Err why)
  for_first_stops old new why goes = goes_same w _ (run at loop_code) slots slots old new loop_is (Err why) (goes_stop w (value at from) after_first slots slots old new why first_grows goes)

  module _ (a : ℤ) (old mid new : Progress) (made : Made w (value at from) slots slots old mid (Returned a)) where
    for_after : (slots' : List ℤ) (r : Result (Unit {0}) Halt) → Goes w (after_first a) slots slots' mid new r → Goes w (run at loop_code) slots slots' old new r
    for_after slots' r goes = goes_same w _ (run at loop_code) slots slots' old new loop_is r (goes_then w (value at from) after_first slots slots slots' old mid new a made r goes)

    pub for_last_stops : (why : Halt) → Goes w (value at to) slots slots mid new (Err why) → Goes w (run at loop_code) slots slots old new (Err why)
    for_last_stops why goes = for_after slots (Err why) (goes_stop w (value at to) (after_limits a) slots slots mid new why (limits_grow a) goes)

    pub for_goes : (last : Progress) (b : ℤ) (slots' : List ℤ) (r : Result (Unit {0}) Halt) → Made w (value at to) slots slots mid last (Returned b)
        → Goes w (shared schedule at line (total_of a b) (turn_from at body slot a)) slots slots' last new r → Goes w (run at loop_code) slots slots' old new r
    for_goes last b slots' r made_to goes =
        for_after slots' r
        (goes_then w (value at to) (after_limits a) slots slots slots' mid last new b made_to r
        (goes_same w (shared schedule at line (total_of a b) (turn_from at body slot a)) (after_limits a b) slots slots' last new
        (λ s. after-done at (shared schedule at line (total_of a b) (turn_from at body slot a) s)) r goes))
