-- An execution of a kernel, whole or stopped: what its logs are, told of the logs alone.
use Rattle.std.specs.Prelude.{◌≡◌, ℕ, ◌+◌, ◌<◌, ◌≤◌, List, [], ◌∷◌, ◌++◌, length, map, take, Some}
use Rattle.std.specs.List.{range_with_len}
use Rattle.sw_base.specs.declared.path.Step.{Step}
use Rattle.log_format.specs.declared.record.Record.{Record}
use Rattle.race_model.specs.Trace.{Trace, Logs, Node, IsThere, logs_of, barrier_count}
use Rattle.race_model.specs.Order.{IsLane}
use Rattle.race_model.specs.Listing.{lane_of}
use Rattle.race_model.specs.ForkJoin.{ListsTask, IsTreeTrace}
use Rattle.race_model.specs.Draws.{DrewEachOnce}
use Rattle.race_model.specs.History.{HasLegalHistory}
use Rattle.kernel_syntax.specs.Program.{Program}
use Rattle.kernel_model.specs.Trace.{Start}
use Rattle.kernel_model.specs.Folder.{own_trace, start_at}
use Rattle.history_model.specs.Joined.{LastIsEnd}

-- these are the first records of the task's trace under what they read and drew
pub record BeginsTrace (program : Program) (start : Start) (records : List Record) : Type 0 where
  pub rest : List Record
  pub begins : (own_trace program start records).records ≡ records ++ rest

-- the task of this path starts where the run forks it, and its log begins its trace
pub record IsBegun (program : Program) (logs : Logs) (path : List Step) : Type 0 where
  pub start : Start
  pub starts : start_at program logs path ≡ Some start
  pub begun : BeginsTrace program start (logs path)

-- where a lane has a record after so many barriers, each lane of its team has passed as many
abbrev pub HaveMet : Logs → Type 0
HaveMet logs = (fork : Node) (lane other span : ℕ) (path beside : List Step) (i : ℕ) → IsLane logs fork lane span path → IsLane logs fork other span beside →
    i < length (logs path) → barrier_count (take i (logs path)) ≤ barrier_count (logs beside)

-- where a task has a record after a region, each lane of the region has ended
abbrev pub HaveJoined : Logs → Type 0
HaveJoined logs = (fork : Node) (lane span : ℕ) (path : List Step) → IsLane logs fork lane span path →
    IsThere logs (record { path = fork.path; index = fork.index + 1 }) → LastIsEnd (logs path)

-- the lanes of these logs drew for the loop the numbers below some number, each once, and that is how many chunks there are where
-- one of them found no more
pub record DrewSome (lanes : List (List Record)) (loop : ℕ) : Type 0 where
  pub limit : ℕ
  pub drew : DrewEachOnce lanes loop limit

-- the logs of all lanes of the team of which the last step names one
abbrev pub team_logs : Logs → List Step → Step → List (List Record)
team_logs logs path step = map (λ lane. logs (lane_of path step.region lane step.span)) (range_with_len 0 step.span)

-- the same of each team that has a task, and of each of its loops
abbrev pub HaveDrawn : Trace → Type 0
HaveDrawn tasks = (path : List Step) (step : Step) → ListsTask tasks (path ++ step ∷ []) → (loop : ℕ) → DrewSome (team_logs (logs_of tasks) path step) loop

-- The tasks and their logs are those of an execution of the kernel, which may have stopped: they are a tree, whose root is `main`,
-- each log begins the trace of its task, barriers and regions hold back who goes on, loops are drawn chunk by chunk, and all
-- accesses and mutex steps have one legal history that respects happens-before and ends in these words.
pub record IsExecution (program : Program) (tasks : Trace) (address : ℕ → ℕ) (words : List ℕ) : Type 0 where
  pub tree : IsTreeTrace tasks
  pub traced : (path : List Step) → ListsTask tasks path → IsBegun program (logs_of tasks) path
  pub met : HaveMet (logs_of tasks)
  pub joined : HaveJoined (logs_of tasks)
  pub drawn : HaveDrawn tasks
  pub history : HasLegalHistory (logs_of tasks) address words
