-- When a tree of work is that of a kernel: each task puts the records of its trace, and its regions start from its locals.
use Rattle.std.specs.Prelude.{◌≡◌, ◌⊎◌, ℕ, ◌<◌, Bool, not, ◌==◌, List, [], ◌∷◌, ◌++◌, length, map, filter}
use Rattle.std.specs.List.{flat_map, range_with_len}
use Rattle.sw_base.specs.declared.path.Step.{Step}
use Rattle.log_format.specs.declared.record.Record.{Record}
use Rattle.race_model.specs.Trace.{TaskLog, Trace}
use Rattle.race_model.specs.History.{released}
use Rattle.kernel_syntax.specs.Program.{Program}
use Rattle.kernel_model.specs.State.{Fork}
use Rattle.kernel_model.specs.Trace.{Start}
use Rattle.kernel_model.specs.Folder.{own_trace}
use Rattle.history_model.specs.Work.{Work, Phases, RegionWork, work_records, work_regions, lane_works, task_logs}
use Rattle.history_model.specs.Tasks.{tree_tasks}
use Rattle.execution_model.specs.Execution.{BeginsTrace, DrewSome}

-- a record of line 0 is an unlock of what a task held when its run stopped: no log has it
abbrev pub is_put : Record → Bool
is_put r = not (r.line == 0)

abbrev pub put_records : List Record → List Record
put_records records = filter is_put records

-- the log of a task with these works
abbrev pub works_log : List Work → List Record
works_log works = put_records (flat_map work_records works)

-- the tasks of a tree, with their logs
abbrev pub as_logged : TaskLog → TaskLog
as_logged task = record { path = task.path; records = put_records task.records }

abbrev pub logged_tasks : ℕ → Work → Trace
logged_tasks depth root = map as_logged (tree_tasks depth root)

-- no task has a longer path
abbrev pub IsWithin : ℕ → Work → Type 0
IsWithin depth root = (path : List Step) → depth < length path → task_logs root path ≡ []

-- the records are those of a log, and perhaps the unlocks of what the task held at its end
abbrev pub AreReleased : List Record → Type 0
AreReleased records = (records ≡ put_records records) ⊎ (records ≡ released (put_records records))

-- a lane starts with its task's locals at the fork
abbrev pub lane_begin : Fork → ℕ → Start
lane_begin fork lane = record { team = fork.team; lane = lane; slots = fork.slots }

-- the logs of the first lanes of a region
abbrev pub region_logs : Phases → ℕ → List (List Record)
region_logs phases span = map (λ lane. works_log (lane_works lane phases)) (range_with_len 0 span)

-- The works are those of a task of the kernel with this start, and its regions are the first that its trace forks: a task that
-- stopped may have forked fewer.
mutual
  pub data RunsTask (program : Program) : Start → List Work → Type 0 where
    runs : (start : Start) (works : List Work) (forks later : List Fork) → BeginsTrace program start (works_log works) → AreReleased (flat_map work_records works)
        → (own_trace program start (works_log works)).forks ≡ forks ++ later → RunsRegions program forks (flat_map work_regions works) → RunsTask program start works

  pub data RunsRegions (program : Program) : List Fork → List RegionWork → Type 0 where
    no_region : RunsRegions program [] []
    region : (fork : Fork) (forks : List Fork) (work : RegionWork) (works : List RegionWork) → work.span ≡ fork.team.span
        → ((lane : ℕ) → lane < work.span → RunsTask program (lane_begin fork lane) (lane_works lane work.phases))
        → ((loop : ℕ) → DrewSome (region_logs work.phases work.span) loop)
        → RunsRegions program forks works → RunsRegions program (fork ∷ forks) (work ∷ works)
