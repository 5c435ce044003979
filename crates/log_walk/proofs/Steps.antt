-- One record more of a log.
use Rattle.std.proofs.Common.{◌≡◌, ℕ, ◌+◌, Bool, false, cond, List, [], ◌∷◌, ◌++◌, length, sym, ap, ◌∙◌, arith}
use Rattle.log_segment.proofs.LabelMoves.{count_more}
use Rattle.log_format.specs.declared.record.Record.{Record}
use Rattle.race_model.specs.Race.{held_after}
use Rattle.race_model.specs.Trace.{is_region_kind, is_barrier_kind}
use Rattle.log_walk.specs.declared.state.State.{State}
use Rattle.log_segment.specs.Walking.{has_summary as has_begun, open_after}
use Rattle.log_segment.specs.declared.walking.Walk.{Walk}
use Rattle.log_walk.specs.Check.{opens_by}
use Rattle.log_walk.specs.State.{IsStateAfter, IsWalkAfter, with_counted}
use Rattle.log_walk.proofs.Opening.{is_open-push, segment_count-push}

-- the state after one record more
pub follows_push : (old mid new : State) (walk : Walk) (opened : ℕ) (before : List Record) (r : Record) → IsStateAfter old opened before → IsWalkAfter walk before → mid ≡ record old { held = mid.held }
    → mid.held ≡ held_after [] (before ++ r ∷ []) → new ≡ with_counted mid r.kind (has_begun walk.summary) → IsStateAfter new opened (before ++ r ∷ [])
follows_push old mid new walk opened before r follows after same held next = record {
  held = ap (λ (s : State). s.held) next ∙ held;
  barriers = omega (arith, ap (λ (s : State). s.barriers) next, ap (λ (s : State). s.barriers) same, follows.barriers, count_more (λ (x : Record). is_barrier_kind x.kind) before r);
  segments = ap (λ (s : State). s.segments) next
      ∙ ap (λ (b : Bool). mid.segments + opens_by r.kind b) after.begun
      ∙ omega (arith, ap (λ (s : State). s.segments) same, follows.segments, segment_count-push before r);
}

-- the walk after one record more
pub walk_push : (old new : Walk) (before : List Record) (r : Record) → IsWalkAfter old before → length new.forks.items ≡ length old.forks.items + cond (is_region_kind r.kind) 1 0
    → has_begun new.summary ≡ open_after r.kind (has_begun old.summary) → IsWalkAfter new (before ++ r ∷ [])
walk_push old new before r after forks begun = record {
  forks = omega (arith, forks, after.forks, count_more (λ (x : Record). is_region_kind x.kind) before r);
  begun = begun ∙ ap (λ (b : Bool). open_after r.kind b) after.begun ∙ sym (is_open-push false before r);
}
