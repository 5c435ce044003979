-- Worksharing loops, as far as they follow the log: chunks that are dealt in turn, and chunks that are drawn.
use Rattle.std.proofs.Common.{◌≡◌, refl, ap, sym, ◌∙◌, subst, ℕ, ◌+◌, ◌-◌, ◌*◌, ◌^◌, ◌<◌, ◌≤◌, min, Bool, true, false, List, [], ◌++◌, ℤ, nat_lt, Option, Result, Ok, Err, arith}
use Rattle.std.specs.List.{range_with_len}
use Rattle.sw_base.specs.Environment.{FolderState}
use Rattle.kernel_syntax.specs.declared.syntax.Schedule.{Schedule}
use Rattle.kernel_syntax.specs.declared.syntax.Schedule.TheVariants.{Even, Static, Dynamic}
use Rattle.kernel_syntax.specs.Share.{even_share_of}
use Rattle.kernel_syntax.specs.Tree.{Code}
use Rattle.kernel_model.specs.Drawing.{turn_from, then_more, if_drawn, draw_once, draw_all}
use Rattle.kernel_model.specs.State.{State, Outcome, Gives, and_then, state_of}
use Rattle.kernel_model.specs.Growth.{Grows}
use Rattle.kernel_model.specs.Iterations.{static_iterations, chunk_count, chunk_iterations}
use Rattle.kernel_model.specs.Trace.{draw, each, turns, shared}
use Rattle.kernel_model.specs.Value.{Site}
use Rattle.kernel_model.proofs.Draining.{again, draw_all_is, again_grows, if_drawn_grows}
use Rattle.kernel_model.proofs.Growing.{grows-plain}
use Rattle.kernel_model.proofs.Joining.{each-append}
use Rattle.kernel_model.proofs.Shares.{static_from}
use Rattle.kernel_model.proofs.Turns.{each_grows, each-range, DealtBefore, dealt_none, dealt_all, dealt_then, dealt_more, chunk_turns, chunk_grows}
use Rattle.log_replay.specs.Following.{Standing, FollowsPart}
use Rattle.log_replay.specs.declared.stray.Stray.{Stray}
use Rattle.log_replay.proofs.Following.{follows_same, follows_then, follows_stop, follows_nothing, then_after, stop_after}

-- ---- turns by a list of iterations

module _ (told : FolderState) (at : Site) (body : Code) (slot : ℕ) (from : ℤ) where
  pub range_goes : (first count : ℕ) (old new : Standing) (r : Result (Unit {0}) Stray) → FollowsPart told (turns count first (turn_from at body slot from)) old new r
      → FollowsPart told (each (range_with_len first count) (turn_from at body slot from)) old new r
  range_goes first count old new r goes =
      follows_same told (turns count first (turn_from at body slot from)) (each (range_with_len first count) (turn_from at body slot from)) old new r (λ s. each-range first count (turn_from at body slot from) s) goes

  each_more : (is js : List ℕ) (old mid new : Standing) (r : Result (Unit {0}) Stray) → FollowsPart told (each is (turn_from at body slot from)) old mid (Ok tt)
      → FollowsPart told (each js (turn_from at body slot from)) mid new r → FollowsPart told (each (is ++ js) (turn_from at body slot from)) old new r
  each_more is js old mid new r before goes =
      follows_same told _ (each (is ++ js) (turn_from at body slot from)) old new r (λ s. each-append is js (turn_from at body slot from) s)
      (then_after told (each is (turn_from at body slot from)) (each js (turn_from at body slot from)) old told refl mid new r before goes)

  each_stop : (is js : List ℕ) (old new : Standing) (why : Stray) → FollowsPart told (each is (turn_from at body slot from)) old new (Err why)
      → FollowsPart told (each (is ++ js) (turn_from at body slot from)) old new (Err why)
  each_stop is js old new why goes =
      follows_same told _ (each (is ++ js) (turn_from at body slot from)) old new (Err why) (λ s. each-append is js (turn_from at body slot from) s)
      (stop_after told (each is (turn_from at body slot from)) (each js (turn_from at body slot from)) old new new why
      (each_grows at body slot from js) goes)

-- ---- chunks that are dealt in turn

-- The lane's chunks before the one that begins at `first` were followed, and no other turns.
pub record FollowedChunks (told : FolderState) (at : Site) (body : Code) (slot : ℕ) (from : ℤ) (chunk total first : ℕ) (old new : Standing) : Type 0 where
  pub done : List ℕ
  pub dealt : DealtBefore chunk total at.lane at.span first done
  pub follows : FollowsPart told (each done (turn_from at body slot from)) old new (Ok tt)

module _ (told : FolderState) (at : Site) (body : Code) (slot : ℕ) (from : ℤ) (chunk total : ℕ) (some : 0 < chunk) (within : at.lane < at.span) where
  pub chunks_none : (x : Standing) → chunk * at.lane < 2 ^ 64 → FollowedChunks told at body slot from chunk total (chunk * at.lane) x x
  chunks_none x small = record { done = []; dealt = dealt_none chunk total at.lane at.span some within small; follows = follows_nothing told tt x }

  module _ (first : ℕ) (old mid new : Standing) (before : FollowedChunks told at body slot from chunk total first old mid) where
    -- all of them were followed
    pub chunks_all : total ≤ first → FollowsPart told (each (static_iterations chunk total at.lane at.span) (turn_from at body slot from)) old mid (Ok tt)
    chunks_all past =
        subst (λ (is : List ℕ). FollowsPart told (each is (turn_from at body slot from)) old mid (Ok tt))
        (sym (dealt_all chunk total at.lane at.span some within first before.done before.dealt past)) before.follows

    module _ (within_loop : first < total) (small : total < 2 ^ 64) where
      -- one more
      pub chunks_grow : FollowsPart told (turns (min chunk (total - first)) first (turn_from at body slot from)) mid new (Ok tt)
          → FollowedChunks told at body slot from chunk total (min (first + chunk * at.span) (2 ^ 64 - 1)) old new
      chunks_grow m = record {
        done = before.done ++ range_with_len first (min chunk (total - first));
        dealt = dealt_more chunk total at.lane at.span some within first before.done before.dealt within_loop small;
        follows =
            each_more told at body slot from before.done (range_with_len first (min chunk (total - first))) old mid new (Ok tt) before.follows
            (range_goes told at body slot from first (min chunk (total - first)) mid new (Ok tt) m);
      }

      -- the next one stops
      pub chunks_stop : (why : Stray) → FollowsPart told (turns (min chunk (total - first)) first (turn_from at body slot from)) mid new (Err why)
          → FollowsPart told (each (static_iterations chunk total at.lane at.span) (turn_from at body slot from)) old new (Err why)
      chunks_stop why m =
          let next = range_with_len first (min chunk (total - first)) in
          let later = static_from chunk total at.lane at.span (before.dealt.q + at.span) in
          subst (λ (is : List ℕ). FollowsPart told (each is (turn_from at body slot from)) old new (Err why))
          (sym (dealt_then chunk total at.lane at.span some within first before.done before.dealt within_loop small))
          (each_more told at body slot from before.done (next ++ later) old mid new (Err why) before.follows
          (each_stop told at body slot from next later mid new why
          (range_goes told at body slot from first (min chunk (total - first)) mid new (Err why) m)))

-- ---- by the loop's schedule

module _ (told : FolderState) (at : Site) (body : Code) (slot : ℕ) (from : ℤ) (line total : ℕ) (old new : Standing) (r : Result (Unit {0}) Stray) where
  pub shared_even : (schedule : Schedule) (share : ℕ × ℕ) → schedule ≡ Even → share ≡ even_share_of total at.lane at.span
      → FollowsPart told (turns share.1 share.0 (turn_from at body slot from)) old new r → FollowsPart told (shared schedule at line total (turn_from at body slot from)) old new r
  shared_even schedule share is same m =
      follows_same told (each (range_with_len share.0 share.1) (turn_from at body slot from)) (shared schedule at line total (turn_from at body slot from)) old new r
      (λ s. ap (λ (k : Schedule). shared k at line total (turn_from at body slot from) s) is ∙ ap (λ (p : ℕ × ℕ). each (range_with_len p.0 p.1) (turn_from at body slot from) s) (sym same))
      (range_goes told at body slot from share.0 share.1 old new r m)

  pub shared_static : (schedule : Schedule) (chunk : ℕ) → schedule ≡ Static chunk
      → FollowsPart told (each (static_iterations chunk total at.lane at.span) (turn_from at body slot from)) old new r
      → FollowsPart told (shared schedule at line total (turn_from at body slot from)) old new r
  shared_static schedule chunk is m =
      follows_same told (each (static_iterations chunk total at.lane at.span) (turn_from at body slot from)) (shared schedule at line total (turn_from at body slot from)) old new r
      (λ s. ap (λ (k : Schedule). shared k at line total (turn_from at body slot from) s) is) m

  pub shared_drawn : (schedule : Schedule) (chunk : ℕ) → schedule ≡ Dynamic chunk
      → FollowsPart told (draw_all line (chunk_count chunk total) (λ q. each (chunk_iterations chunk total q) (turn_from at body slot from))) old new r
      → FollowsPart told (shared schedule at line total (turn_from at body slot from)) old new r
  shared_drawn schedule chunk is m =
      follows_same told (draw_all line (chunk_count chunk total) (λ q. each (chunk_iterations chunk total q) (turn_from at body slot from))) (shared schedule at line total (turn_from at body slot from)) old new r
      (λ s. ap (λ (k : Schedule). shared k at line total (turn_from at body slot from) s) is) m

-- ---- chunks that are drawn

-- Whatever the lane follows from here on, it follows in the part.
pub record FollowsOn (told : FolderState) (part : State → Outcome (Unit {0})) (old mid : Standing) : Type 0 where
  pub on : (new : Standing) (r : Result (Unit {0}) Stray) → FollowsPart told part mid new r → FollowsPart told part old new r

module _ (line n : ℕ) (chunk : ℕ → State → Outcome (Unit {0})) (grows : (q : ℕ) (s : State) → Grows s (state_of (chunk q s))) where
  module _ (told : FolderState) (old mid new : Standing) (before : FollowsOn told (draw_all line n chunk) old mid) where
    in_loop : (r : Result (Unit {0}) Stray) (last : Standing) → FollowsPart told (λ s. and_then (draw_once line n chunk s) (again line n chunk)) mid last r → FollowsPart told (draw_all line n chunk) old last r
    in_loop r last goes = before.on last r (follows_same told (λ s. and_then (draw_once line n chunk s) (again line n chunk)) (draw_all line n chunk) mid last r (draw_all_is line n chunk grows) goes)

    pub draws_more : FollowsPart told (draw_once line n chunk) mid new (Ok true) → FollowsOn told (draw_all line n chunk) old new
    draws_more one = record { on = λ last r goes. in_loop r last (follows_then told (draw_once line n chunk) (again line n chunk) mid told refl true new last r one goes) }

    pub draws_end : FollowsPart told (draw_once line n chunk) mid new (Ok false) → FollowsPart told (draw_all line n chunk) old new (Ok tt)
    draws_end one = in_loop (Ok tt) new (follows_then told (draw_once line n chunk) (again line n chunk) mid told refl false new new (Ok tt) one (follows_nothing told tt new))

    pub draws_stop : (why : Stray) → FollowsPart told (draw_once line n chunk) mid new (Err why) → FollowsPart told (draw_all line n chunk) old new (Err why)
    draws_stop why goes = in_loop (Err why) new (follows_stop told (draw_once line n chunk) (again line n chunk) mid new new why (again_grows line n chunk grows) goes)

module _ (told : FolderState) (at : Site) (body : Code) (slot : ℕ) (from : ℤ) (line total chunk : ℕ) where
  abbrev chunks : ℕ → State → Outcome (Unit {0})
  chunks = chunk_turns at body slot from total chunk

  abbrev count : ℕ
  count = chunk_count chunk total

  pub draw_stops : (old new : Standing) (why : Stray) → FollowsPart told (draw line count) old new (Err why) → FollowsPart told (draw_once line count chunks) old new (Err why)
  draw_stops old new why goes = follows_stop told (draw line count) (λ q s. if_drawn q count chunks s) old new new why (if_drawn_grows line count chunks (chunk_grows at body slot from total chunk)) goes

  module _ (q : ℕ) (old mid : Standing) (drew : FollowsPart told (draw line count) old mid (Ok q)) where
    pub none_left : count ≤ q → FollowsPart told (draw_once line count chunks) old mid (Ok false)
    none_left past =
        let no : nat_lt q count ≡ false = grind (arith, past) in
        follows_then told (draw line count) (λ q s. if_drawn q count chunks s) old told refl q mid mid (Ok false) drew
        (follows_same told (λ s. Gives false s) (if_drawn q count chunks) mid mid (Ok false) (λ s. rw no refl) (follows_nothing told false mid))

    module _ (less : q < count) (new : Standing) where
      is_less : nat_lt q count ≡ true
      is_less = grind (arith, less)

      drawn_is : (s : State) → if_drawn q count chunks s ≡ then_more (chunks q s)
      drawn_is s = rw is_less refl

      pub chunk_stops : (why : Stray) → FollowsPart told (turns (min chunk (total - q * chunk)) (q * chunk) (turn_from at body slot from)) mid new (Err why)
          → FollowsPart told (draw_once line count chunks) old new (Err why)
      chunk_stops why goes =
          follows_then told (draw line count) (λ q s. if_drawn q count chunks s) old told refl q mid new (Err why) drew
          (follows_same told (λ s. then_more (chunks q s)) (if_drawn q count chunks) mid new (Err why) drawn_is
          (follows_stop told (chunks q) (λ u s. Gives true s) mid new new why (λ u s. grows-plain.same s)
          (range_goes told at body slot from (q * chunk) (min chunk (total - q * chunk)) mid new (Err why) goes)))

      pub chunk_ends : FollowsPart told (turns (min chunk (total - q * chunk)) (q * chunk) (turn_from at body slot from)) mid new (Ok tt)
          → FollowsPart told (draw_once line count chunks) old new (Ok true)
      chunk_ends goes =
          follows_then told (draw line count) (λ q s. if_drawn q count chunks s) old told refl q mid new (Ok true) drew
          (follows_same told (λ s. then_more (chunks q s)) (if_drawn q count chunks) mid new (Ok true) drawn_is
          (follows_then told (chunks q) (λ u s. Gives true s) mid told refl tt new new (Ok true)
          (range_goes told at body slot from (q * chunk) (min chunk (total - q * chunk)) mid new (Ok tt) goes) (follows_nothing told true new)))
