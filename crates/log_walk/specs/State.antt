-- What is kept of the records of a log that were read.
use Rattle.std.specs.Prelude.{◌≡◌, ℕ, ◌+◌, cond, Bool, false, List, [], length}
use Rattle.log_format.specs.declared.record.Kind.{Kind}
use Rattle.log_format.specs.declared.record.Record.{Record}
use Rattle.log_segment.specs.Walking.{has_summary as has_begun}
use Rattle.log_segment.specs.declared.walking.Walk.{Walk}
use Rattle.race_model.specs.Race.{held_after}
use Rattle.race_model.specs.Segment.{segment_count}
use Rattle.race_model.specs.Trace.{region_count, barrier_count, is_barrier_kind}
use Rattle.log_walk.specs.Check.{opens_by, is_open_after}
use Rattle.log_walk.specs.declared.state.State.{State}

-- a state after these records, where earlier logs have so many segments
pub record IsStateAfter (state : State) (opened : ℕ) (before : List Record) : Type 0 where
  pub held : state.held ≡ held_after [] before
  pub barriers : state.barriers ≡ barrier_count before
  pub segments : state.segments ≡ opened + segment_count before

-- a walk that went over these records: so many forks, and whether a segment is open
pub record IsWalkAfter (walk : Walk) (before : List Record) : Type 0 where
  pub forks : length walk.forks.items ≡ region_count before
  pub begun : has_begun walk.summary ≡ is_open_after false before

-- a state after one record more, but for its mutexes
abbrev pub with_counted : State → Kind → Bool → State
with_counted state kind open_before = record {
  held = state.held;
  barriers = state.barriers + cond (is_barrier_kind kind) 1 0;
  segments = state.segments + opens_by kind open_before;
}
