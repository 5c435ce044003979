-- The tasks of a whole run of a kernel.
use Rattle.std.specs.Prelude.{◌≡◌, ◌==◌, ◌&&◌, nat_lt, if◌then◌else◌, List, [], ◌∷◌, ◌++◌, map, replicate, pos, Option, Some, None, IsSome, slice_get, All, Contains}
use Rattle.std.specs.List.{IsDistinct}
use Rattle.sw_base.specs.declared.path.Step.{Step}
use Rattle.log_format.specs.declared.record.Record.{Record}
use Rattle.race_model.specs.Trace.{TaskLog, Trace, Logs, logs_of, path_eq}
use Rattle.kernel_syntax.specs.Program.{Program}
use Rattle.kernel_model.specs.State.{Fork, reads_of, chunks_of}
use Rattle.kernel_model.specs.Trace.{Start, TaskTrace, Ending, Ended, trace}

-- the trace of a task under what its own records read and drew
abbrev pub own_trace : Program → Start → List Record → TaskTrace
own_trace program start records = trace program start (reads_of records) (chunks_of records)

-- the root: `main`, with all locals 0
abbrev pub root_start : Program → Start
root_start program = record { team = program.main; lane = 0; slots = replicate program.slots (pos 0) }

-- a lane of a forked team; none where the step has no such lane or another span
abbrev pub lane_start : Option Fork → Step → Option Start
lane_start None step = None
lane_start (Some fork) step =
    (if (step.span == fork.team.span) && nat_lt step.lane step.span
    then Some (record { team = fork.team; lane = step.lane; slots = fork.slots }) else None)

-- the start of the task that the steps lead to from the task at this path
abbrev pub start_below : Program → Logs → List Step → Option Start → List Step → Option Start
start_below program logs path None steps = None
start_below program logs path (Some start) [] = Some start
start_below program logs path (Some start) (step ∷ steps) =
    start_below program logs (path ++ step ∷ []) (lane_start (slice_get (own_trace program start (logs path)).forks step.region) step) steps

-- how the task of a path starts, in a run with these logs; none where no task forks it
unfoldable pub start_at : Program → Logs → List Step → Option Start
start_at program logs path = start_below program logs [] (Some (root_start program)) path

-- the records are those of the task's trace under what they read and drew, and the trace ends so
pub record IsTracedTo (program : Program) (start : Start) (records : List Record) (end : Ending) : Type 0 where
  pub records_are : (own_trace program start records).records ≡ records
  pub ended : (own_trace program start records).end ≡ end

-- and the trace ends with its End record
abbrev pub IsTraced : Program → Start → List Record → Type 0
IsTraced program start records = IsTracedTo program start records Ended

-- the task starts where the run forks it, and has its trace's records
pub record IsTracedTask (program : Program) (logs : Logs) (task : TaskLog) : Type 0 where
  pub start : Start
  pub starts : start_at program logs task.path ≡ Some start
  pub traced : IsTraced program start task.records

abbrev pub paths_of : Trace → List (List Step)
paths_of tasks = map (λ (task : TaskLog). task.path) tasks

-- The tasks of a whole run of the kernel: the root and each lane of each region that they fork, each once, with its records.
pub record IsTracedFolder (program : Program) (tasks : Trace) : Type 0 where
  pub each : All (IsTracedTask program (logs_of tasks)) tasks
  pub all : (path : List Step) → IsSome (start_at program (logs_of tasks) path) → Contains (paths_of tasks) path
  pub once : IsDistinct path_eq (paths_of tasks)
