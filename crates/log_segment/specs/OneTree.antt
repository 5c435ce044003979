-- Segments that stand in one tree of tasks: a condition on the segments alone.
use Rattle.std.specs.Prelude.{◌≡◌, ◌<◌, List, [], ◌∷◌, All, AllPairs, Contains}
use Rattle.sw_base.specs.declared.path.Step.{Step}
use Rattle.race_model.specs.ForkJoin.{IsTask, IsTaskTree}
use Rattle.race_model.specs.Segment.{Segment as Interval, task_segments}
use Rattle.race_model.specs.Trace.{Logs}
use Rattle.log_segment.specs.Intervals.{IsSegmentOf}
use Rattle.log_segment.specs.declared.segment.Segment.{Segment}

-- the step to a lane that stands earlier in the index: of an earlier region, or an earlier lane of the same one
pub data IsStepBefore (s t : Step) : Type 0 where
  region : s.region < t.region → IsStepBefore s t
  lane : s.region ≡ t.region → s.lane < t.lane → IsStepBefore s t

-- the order of rows: a task before those under it, and else by the first step that differs
pub data IsPathBefore : List Step → List Step → Type 0 where
  under : (t : Step) (ts : List Step) → IsPathBefore [] (t ∷ ts)
  same : (s : Step) (ss ts : List Step) → IsPathBefore ss ts → IsPathBefore (s ∷ ss) (s ∷ ts)
  differ : (s t : Step) (ss ts : List Step) → IsStepBefore s t → IsPathBefore (s ∷ ss) (t ∷ ts)

-- the order of segments: that of their rows, and in one log by number
pub data IsSegmentBefore (a b : Segment) : Type 0 where
  row : IsPathBefore a.path b.path → IsSegmentBefore a b
  number : a.path ≡ b.path → a.last < b.first → IsSegmentBefore a b

-- the segment is one of its task's log
pub record IsSegmentIn (logs : Logs) (segment : Segment) : Type 0 where
  pub interval : Interval
  pub listed : Contains (task_segments (record { path = segment.path; records = logs segment.path })) interval
  pub is : IsSegmentOf logs interval segment

-- the segments are those of some tree of tasks, in order
pub record StandInOneTree (segments : List Segment) : Type 0 where
  pub logs : Logs
  pub tree : IsTaskTree (IsTask logs) logs
  pub each : All (IsSegmentIn logs) segments
  pub ordered : AllPairs IsSegmentBefore segments
