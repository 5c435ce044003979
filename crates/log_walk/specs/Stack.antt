-- What is kept from one log of a folder to the next.
use Rattle.std.specs.Prelude.{◌≡◌, ◌≢◌, ◌⊎◌, ℕ, ◌<◌, List, [], ◌∷◌, ◌++◌, length, take, Contains, Option, Some, slice_get}
use Rattle.sw_base.specs.declared.path.Step.{Step}
use Rattle.sw_base.specs.Environment.{Content, WhereTold}
use Rattle.log_format.specs.declared.format.Format.{Format}
use Rattle.log_format.specs.declared.record.Record.{Record}
use Rattle.race_model.specs.FirstBad.{segments_in}
use Rattle.race_model.specs.Listing.{lane_of}
use Rattle.race_model.specs.LogFault.{IsWholeLog}
use Rattle.race_model.specs.Row.{Row}
use Rattle.race_model.specs.Segment.{task_segments}
use Rattle.race_model.specs.Trace.{TaskLog, Trace, Logs, barrier_count}
use Rattle.log_segment.specs.Stack.{HasForks}
use Rattle.log_segment.specs.Walking.{AddsSegments, HasLogs}
use Rattle.log_segment.specs.declared.segment.Segment.{Segment}
use Rattle.log_walk.specs.GoodTrace.{IsGoodTrace}
use Rattle.log_walk.specs.declared.stack.Stack.{Stack}

-- the labels of the forks of the tasks above this one, whatever logs follow
abbrev pub KnowsForks : Stack → Trace → List Step → Type 0
KnowsForks stack trace path = (logs : Logs) → HasLogs logs trace → (depth : ℕ) → depth < length path → HasForks logs stack.forks.items path depth

-- the first lane of this step's team, and how many barriers it passed
pub record HasTeam (trace : Trace) (barriers : List ℕ) (above : List Step) (step : Step) : Type 0 where
  pub first : TaskLog
  pub listed : Contains trace first
  pub first_path : first.path ≡ lane_of above step.region 0 step.span
  pub counted : slice_get barriers (length above) ≡ Some (barrier_count first.records)

-- the barriers of the teams of a path, where a lane of the team was gone over
abbrev pub KnowsTeams : Stack → Trace → List Step → Type 0
KnowsTeams stack trace path = (above : List Step) (step : Step) (rest : List Step) → path ≡ above ++ step ∷ rest → (rest ≢ []) ⊎ (0 < step.lane)
    → HasTeam trace stack.barriers.items above step

-- the number of barriers that is kept for a lane's team
pub record IsCountOf (barriers : List ℕ) (path : List Step) (count : ℕ) : Type 0 where
  pub above : List Step
  pub step : Step
  pub path_is : path ≡ above ++ step ∷ []
  pub from_one : 0 < step.lane
  pub kept : slice_get barriers (length above) ≡ Some count

-- the numbers that are kept once a task was gone over
abbrev pub counts_with : List Step → List ℕ → ℕ → List ℕ
counts_with [] barriers count = barriers
counts_with (step ∷ below) barriers count = take (length below) barriers ++ count ∷ []

-- what is kept after these tasks
pub record IsStackAfter (format : Format) (rows : List Row) (stack : Stack) (trace : Trace) : Type 0 where
  pub good : IsGoodTrace format rows trace
  pub place : stack.place ≡ length trace
  pub counted : stack.segments ≡ segments_in trace
  pub forks : (row : Row) → slice_get rows (length trace) ≡ Some row → KnowsForks stack trace row.path
  pub teams : (row : Row) → slice_get rows (length trace) ≡ Some row → KnowsTeams stack trace row.path

-- this is so of all tasks that the stack may stand after, and of the row that comes next
abbrev pub AtNext : Format → List Row → Stack → (Trace → Row → Type 0) → Type 0
AtNext format rows stack IsSo = (trace : Trace) (row : Row) → IsStackAfter format rows stack trace → slice_get rows stack.place ≡ Some row → IsSo trace row

-- the log of the next row was gone over
pub record WalksTask (format : Format) (told : Option Content) (dir : List ℕ) (rows : List Row) (stack : Stack) (trace : Trace) (row : Row) (old new : List Segment) : Type 0 where
  pub records : List Record
  pub counted : length records ≡ row.records
  pub stands : IsStackAfter format rows stack (trace ++ record { path = row.path; records = records } ∷ [])
  pub whole : WhereTold told (λ c. IsWholeLog format c.held dir row.path records)
  pub adds : (logs : Logs) → HasLogs logs (trace ++ record { path = row.path; records = records } ∷ [])
      → AddsSegments logs (task_segments (record { path = row.path; records = records })) old new
