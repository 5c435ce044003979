-- A log that was gone over in part, whatever is ahead.
use Rattle.std.specs.Prelude.{◌≡◌, ◌+◌, List, [], ◌∷◌, ◌++◌, length}
use Rattle.sw_base.specs.declared.path.Step.{Step}
use Rattle.log_format.specs.declared.record.Record.{Record}
use Rattle.race_model.specs.Trace.{Logs}
use Rattle.race_model.specs.Race.{held_after}
use Rattle.race_model.specs.Label.{Triple, IsLabel}
use Rattle.race_model.specs.Segment.{Event, Segment as Interval, events_from, task_segments}
use Rattle.log_segment.specs.declared.segment.Segment.{Segment}
use Rattle.log_segment.specs.declared.walking.Walk.{Walk}
use Rattle.log_segment.specs.Walking.{AddsSegments, BeginsLog, Follows, begun_after, ended, ended_by}

-- the segments that end from here on
abbrev pub ends_from : List Step → List Event → List Event → List Interval
ends_from path begun [] = ended path begun
ends_from path begun (e ∷ es) = ended_by path e.event.kind begun ++ ends_from path (begun_after e.event.kind e begun) es

-- what was gone over of a log, and what is to come of whatever is ahead, are the segments of the log
pub record Going (logs : Logs) (path : List Step) (before : List Record) (walk : Walk) (old new : List Segment) : Type 0 where
  pub begun : List Event
  pub done : List Interval
  pub follows : Follows logs path before walk begun
  pub adds : AddsSegments logs done old new
  pub total : (rest : List Record) → done ++ ends_from path begun (events_from (length before + 1) (held_after [] before) rest) ≡ task_segments (record { path = path; records = before ++ rest })

-- the walk went over these records of a log that begins with this label, whatever is ahead
abbrev pub HasWalked : List Step → List Triple → List Record → Walk → List Segment → List Segment → Type 0
HasWalked path label before walk old new = (logs : Logs) → BeginsLog logs path before → IsLabel logs (record { path = path; index = 0 }) label → Going logs path before walk old new
