-- How a task of an execution stopped, told of its logs.
use Rattle.std.specs.Prelude.{◌≡◌, ℕ, ◌<◌, List, [], ◌∷◌, ◌++◌, length, All, Some}
use Rattle.sw_base.specs.declared.path.Step.{Step}
use Rattle.sw_base.specs.Names.{IsUnder}
use Rattle.log_format.specs.Limit.{task_limit}
use Rattle.log_format.specs.declared.record.Record.{Record}
use Rattle.log_format.specs.declared.record.Kind.TheVariants.{Region}
use Rattle.race_model.specs.ForkJoin.{ListsTask}
use Rattle.race_model.specs.Trace.{Trace, logs_of}
use Rattle.kernel_syntax.specs.Program.{Program}
use Rattle.kernel_model.specs.declared.stop.StopWhy.{StopWhy}
use Rattle.kernel_model.specs.declared.stop.StopWhy.TheVariants.{Tasks}
use Rattle.kernel_model.specs.Folder.{IsTracedTo, paths_of, start_at}
use Rattle.kernel_model.specs.Trace.{Start, Ending, Stopped}
use Rattle.history_model.specs.Joined.{LastIsEnd}

-- the task of this path starts where the run forks it, and its log is its whole trace, which ends so
pub record EndsTask (program : Program) (tasks : Trace) (path : List Step) (end : Ending) : Type 0 where
  pub listed : ListsTask tasks path
  pub start : Start
  pub starts : start_at program (logs_of tasks) path ≡ Some start
  pub traced : IsTracedTo program start (logs_of tasks path) end

-- each lane of the regions of the task of this path put its End
abbrev pub LanesEnd : Trace → List Step → Type 0
LanesEnd tasks path = (step : Step) → ListsTask tasks (path ++ step ∷ []) → LastIsEnd (logs_of tasks (path ++ step ∷ []))

-- the last of these records is that of a region
pub record LastIsRegion (records : List Record) : Type 0 where
  pub prefix : List Record
  pub last : Record
  pub parts : records ≡ prefix ++ last ∷ []
  pub forks : last.kind ≡ Region

-- and it has this line
pub record LastIsRegionAt (line : ℕ) (records : List Record) : Type 0 where
  pub region : LastIsRegion records
  pub line_is : region.last.line ≡ line

-- of these paths more lie below this one than there may be tasks below one
pub record IsCrowded (path : List Step) (paths : List (List Step)) : Type 0 where
  pub before : List (List Step)
  pub below : List (List Step)
  pub after : List (List Step)
  pub parts : paths ≡ before ++ path ∷ (below ++ after)
  pub under : All (λ p. IsUnder p path) below
  pub many : task_limit < length below

-- How the task of this path stopped, at this line: its trace ends so; or where too many tasks lie below it, its last record is that of a region at
-- the line, and each lane of its regions put its End.
pub data StopsAt (program : Program) (tasks : Trace) (path : List Step) (line : ℕ) : StopWhy → Type 0 where
  as_traced : (reason : StopWhy) → (reason ≡ Tasks → ⊥) → EndsTask program tasks path (Stopped reason line) → StopsAt program tasks path line reason
  crowded : LastIsRegionAt line (logs_of tasks path) → LanesEnd tasks path → IsCrowded path (paths_of tasks) → StopsAt program tasks path line Tasks
