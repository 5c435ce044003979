-- Traces whose logs keep all rules beside an index.
use Rattle.std.specs.Prelude.{◌≡◌, ℕ, ◌<◌, ◌≤◌, List, [], ◌∷◌, ◌++◌, length, take, All, Contains, Option, Some, None, slice_get}
use Rattle.sw_base.specs.declared.path.Step.{Step}
use Rattle.log_format.specs.declared.format.Format.{Format}
use Rattle.log_format.specs.Table.{IsTabled}
use Rattle.race_model.specs.Row.{Row}
use Rattle.race_model.specs.Listing.{lane_of}
use Rattle.race_model.specs.Trace.{TaskLog, Trace, barrier_count}
use Rattle.race_model.specs.LogFault.{LogTask, ListsSpans, max_segments}
use Rattle.race_model.specs.FirstBad.{rows_of, segments_in}
use Rattle.log_walk.specs.Check.{KeepsLogRules}

-- the task is the root or lane 0 of a team
abbrev pub LeadsTeam : List Step → Type 0
LeadsTeam path = (above : List Step) (step : Step) → path ≡ above ++ step ∷ [] → step.lane ≡ 0

-- the task is a lane from 1 on, and lane 0 of its team is one of the earlier tasks
pub record FollowsTeam (earlier : Trace) (path : List Step) (barriers : ℕ) : Type 0 where
  pub above : List Step
  pub step : Step
  pub path_is : path ≡ above ++ step ∷ []
  pub from_one : 0 < step.lane
  pub first : TaskLog
  pub listed : Contains earlier first
  pub first_path : first.path ≡ lane_of above step.region 0 step.span
  pub counted : barriers ≡ barrier_count first.records

-- the barriers that a task's log must have
abbrev pub AreTeamBarriers : Trace → List Step → Option ℕ → Type 0
AreTeamBarriers earlier path None = LeadsTeam path
AreTeamBarriers earlier path (Some barriers) = FollowsTeam earlier path barriers

-- a task with this many records, seen by the rules
abbrev pub log_task : TaskLog → List ℕ → Option ℕ → LogTask
log_task task spans team = record { path = task.path; records = length task.records; spans = spans; due_barriers = team }

-- the log of a task after others keeps the rules
pub record IsGoodTask (format : Format) (rows : List Row) (earlier : Trace) (task : TaskLog) : Type 0 where
  pub spans : List ℕ
  pub has_spans : ListsSpans rows task.path spans
  pub due_barriers : Option ℕ
  pub has_team : AreTeamBarriers earlier task.path due_barriers
  pub tabled : All (IsTabled format) task.records
  pub keeps : KeepsLogRules (log_task task spans due_barriers) task.records

-- the tasks are those of the first rows, and their logs keep the rules
pub record IsGoodTrace (format : Format) (rows : List Row) (trace : Trace) : Type 0 where
  pub rows_are : rows_of trace ≡ take (length trace) rows
  pub each : (k : ℕ) (task : TaskLog) → slice_get trace k ≡ Some task → IsGoodTask format rows (take k trace) task
  pub limit : segments_in trace ≤ max_segments
