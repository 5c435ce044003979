-- Kernels of which one run without races is every run.
use Rattle.std.specs.Prelude.{◌≡◌, ℕ, List, ◌++◌, Some}
use Rattle.sw_base.specs.declared.path.Step.{Step}
use Rattle.log_format.specs.declared.record.Record.{Record}
use Rattle.kernel_syntax.specs.declared.syntax.Schedule.{Schedule}
use Rattle.kernel_syntax.specs.declared.syntax.Schedule.TheVariants.{Even, Static, Dynamic}
use Rattle.kernel_syntax.specs.Program.{Program}
use Rattle.kernel_syntax.specs.Tree.{Code, Done, Set, Store, Update, If, Loop, Parallel, For, Barrier, Critical}
use Rattle.race_model.specs.Trace.{Trace, logs_of}
use Rattle.race_model.specs.History.{HasLegalHistory}
use Rattle.race_model.specs.Race.{IsRacePair}
use Rattle.kernel_model.specs.Trace.{Start}
use Rattle.kernel_model.specs.Folder.{IsTracedFolder, start_at}

-- a schedule that fixes which lane executes an iteration
abbrev pub IsFixedSchedule : Schedule → Type 0
IsFixedSchedule Even = Unit {0}
IsFixedSchedule (Static chunk) = Unit {0}
IsFixedSchedule (Dynamic chunk) = ⊥

-- No critical section stands in the statements, no loop whose chunks are drawn and no atomic update, in inner regions neither. Drawn
-- chunks let the order of lanes decide more than what they read; a mutex hides a race; and the law is stated without updates.
abbrev pub IsFixed : Code → Type 0
IsFixed Done = Unit {0}
IsFixed (Set slot value rest) = IsFixed rest
IsFixed (Store array index value line site rest) = IsFixed rest
IsFixed (Update array index value minus line site rest) = ⊥
IsFixed (If test if_true if_false rest) = IsFixed if_true × IsFixed if_false × IsFixed rest
IsFixed (Loop slot from to body rest) = IsFixed body × IsFixed rest
IsFixed (Parallel span line end body rest) = IsFixed body × IsFixed rest
IsFixed (For slot from to schedule nowait line end body rest) = IsFixedSchedule schedule × IsFixed body × IsFixed rest
IsFixed (Barrier line rest) = IsFixed rest
IsFixed (Critical mutex line end body rest) = ⊥

-- The tasks are those of a whole run of the kernel, and their accesses have one legal history that respects happens-before.
pub record IsRun (program : Program) (tasks : Trace) : Type 0 where
  pub traced : IsTracedFolder program tasks
  pub address : ℕ → ℕ
  pub words : List ℕ
  pub history : HasLegalHistory (logs_of tasks) address words

-- A run of a fixed kernel that has no race.
pub record IsCertain (program : Program) (tasks : Trace) : Type 0 where
  pub fixed : IsFixed program.main.body
  pub run : IsRun program tasks
  pub no_race : (pair : ℕ × ℕ) → IsRacePair (logs_of tasks) pair → ⊥

-- The task starts in the execution as it does in the run, and its log begins the run's.
pub record BeginsRun (program : Program) (run execution : Trace) (path : List Step) : Type 0 where
  pub start : Start
  pub in_run : start_at program (logs_of run) path ≡ Some start
  pub in_execution : start_at program (logs_of execution) path ≡ Some start
  pub rest : List Record
  pub begins : logs_of run path ≡ logs_of execution path ++ rest

-- At every path both have the same log, and the same start, if any.
pub record AreSame (program : Program) (run other : Trace) : Type 0 where
  pub logs : (path : List Step) → logs_of other path ≡ logs_of run path
  pub starts : (path : List Step) → start_at program (logs_of other) path ≡ start_at program (logs_of run) path
