-- What is answered of a kernel and the tasks of a folder: that they are a run of the kernel, or the first record that isn't its trace's.
use Rattle.std.specs.Prelude.{◌≡◌, ℕ, ◌<◌, List, Option, Some, slice_get}
use Rattle.sw_base.specs.declared.path.Step.{Step}
use Rattle.sw_base.specs.Environment.{Content, WhereTold}
use Rattle.log_format.specs.declared.format.TheConstants.{FORMAT}
use Rattle.race_model.specs.FirstBad.{HoldsTrace}
use Rattle.race_model.specs.Trace.{TaskLog, Trace, logs_of}
use Rattle.race_model.specs.WellFormed.{IsWellFormed}
use Rattle.kernel_syntax.specs.Bounds.{IsBounded}
use Rattle.kernel_syntax.specs.Program.{Program}
use Rattle.kernel_model.specs.Trace.{Start}
use Rattle.kernel_model.specs.Folder.{own_trace, start_at, IsTracedTask, IsTracedFolder}
use Rattle.log_replay.specs.Differing.{DiffersAt}
use Rattle.log_walk.specs.declared.fault.WalkFault.{WalkFault}
use Rattle.log_walk.specs.declared.fault.WalkFault.TheVariants as fault
use Rattle.log_replay.specs.declared.replaying.Replayed.{Replayed}
use Rattle.log_replay.specs.declared.replaying.Replayed.TheVariants.{Same, Differs}

-- the kernel's numbers are within their bounds, and its root is one lane, as in each kernel that is read
pub record IsReplayable (program : Program) : Type 0 where
  pub bounded : IsBounded program
  pub alone : program.main.span ≡ 1

-- Each task before this one, in the order of the rows, is traced. This one starts where a task forks it, and its log differs from
-- its trace first at the record of this number.
pub record DiffersFirst (program : Program) (tasks : Trace) (path : List Step) (number : ℕ) : Type 0 where
  pub index : ℕ
  pub task : TaskLog
  pub listed : slice_get tasks index ≡ Some task
  pub earlier : (k : ℕ) (other : TaskLog) → k < index → slice_get tasks k ≡ Some other → IsTracedTask program (logs_of tasks) other
  pub path_is : task.path ≡ path
  pub start : Start
  pub starts : start_at program (logs_of tasks) path ≡ Some start
  pub differs : DiffersAt (own_trace program start task.records).records task.records number

abbrev pub IsReplayed : Program → Trace → Replayed → Type 0
IsReplayed program tasks Same = IsTracedFolder program tasks
IsReplayed program tasks (Differs path number) = DiffersFirst program tasks path number

-- the folder has no bad place, and this is found of the run that it holds, where it tells what it holds
pub record AnswersFolder (program : Program) (told : Option Content) (dir : List ℕ) (found : Replayed) : Type 0 where
  pub tasks : Trace
  pub holds : WhereTold told (λ c. HoldsTrace FORMAT c.held dir tasks)
  pub well_formed : WhereTold told (λ c. IsWellFormed FORMAT c.held dir)
  pub replayed : WhereTold told (λ c. IsReplayed program tasks found)

-- a read failed, or no memory was found
abbrev pub IsTroubled : WalkFault → Type 0
IsTroubled fault.ReadFault = Unit {0}
IsTroubled fault.Memory = Unit {0}
IsTroubled _ = ⊥
