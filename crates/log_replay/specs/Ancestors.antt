-- What is kept of the tasks above the one that comes next: the regions that each of them forked, by depth.
use Rattle.std.specs.Prelude.{◌≡◌, ℕ, ◌<◌, List, [], ◌∷◌, ◌++◌, length, take, map, Option, Some, None, slice_get}
use Rattle.sw_base.specs.declared.path.Step.{Step}
use Rattle.log_format.specs.declared.record.Record.{Record}
use Rattle.race_model.specs.Trace.{Logs}
use Rattle.kernel_syntax.specs.Bounds.{IsBoundedCode}
use Rattle.kernel_syntax.specs.Program.{Program, code_of, team_of}
use Rattle.kernel_model.specs.State.{Fork}
use Rattle.kernel_model.specs.Trace.{Start}
use Rattle.kernel_model.specs.Folder.{own_trace, start_at, IsTraced}
use Rattle.log_replay.specs.Differing.{DiffersAt}
use Rattle.log_replay.specs.Forks.{fork_of}
use Rattle.log_replay.specs.declared.forked.Forked.{Forked}
use Rattle.log_replay.specs.declared.ancestors.Begin.{Begin}
use Rattle.log_replay.specs.declared.stray.Stray.{Stray}
use Rattle.log_replay.specs.declared.stray.Stray.TheVariants as stray
use Rattle.std.specs.Global.{Vec}

-- the regions that were kept, as the meaning of kernels has them
abbrev pub forks_kept : List (Vec Forked) → List (List Fork)
forks_kept kept = map (λ (forks : Vec Forked). map fork_of forks.items) kept

-- how a task starts, as the meaning of kernels has it
abbrev pub start_of : Begin → Start
start_of b = record { team = team_of b.team.now; lane = b.lane; slots = b.slots.items }

-- the task's numbers are within their bounds, and its team has its lane
pub record CanStart (b : Begin) : Type 0 where
  pub bounded : IsBoundedCode (code_of b.team.now.body.stmts.items)
  pub within : b.lane < b.team.now.span

-- the task of this path, at this depth, is traced, and the regions that it forked are kept
pub record KeepsForks (program : Program) (logs : Logs) (kept : List (List Fork)) (above : List Step) (depth : ℕ) : Type 0 where
  pub start : Start
  pub starts : start_at program logs above ≡ Some start
  pub traced : IsTraced program start (logs above)
  pub forks : slice_get kept depth ≡ Some (own_trace program start (logs above)).forks

-- and so for each task above
abbrev pub KeepsAllForks : Program → Logs → List (List Fork) → List Step → Type 0
KeepsAllForks program logs kept path = (depth : ℕ) → depth < length path → KeepsForks program logs kept (take depth path) depth

-- the task is traced, and the regions that it forked are kept beside those of the tasks above it
pub record GoesOn (program : Program) (logs : Logs) (path : List Step) (old new : List (List Fork)) : Type 0 where
  pub start : Start
  pub starts : start_at program logs path ≡ Some start
  pub traced : IsTraced program start (logs path)
  pub kept : new ≡ take (length path) old ++ (own_trace program start (logs path)).forks ∷ []

-- a task that isn't forked has no trace
abbrev pub trace_from : Program → Option Start → List Record → List Record
trace_from program None records = []
trace_from program (Some start) records = (own_trace program start records).records

-- what is answered of the task of a path: where its log leaves its trace, if it does
abbrev pub ComparesTask : Program → Logs → List Step → List (List Fork) → List (List Fork) → Option ℕ → Type 0
ComparesTask program logs path old new None = GoesOn program logs path old new
ComparesTask program logs path old new (Some number) = DiffersAt (trace_from program (start_at program logs path) (logs path)) (logs path) number

-- the task left its log at the record of this number
abbrev pub IsFoundOf : Stray → Option ℕ → Type 0
IsFoundOf (stray.Differs number) found = found ≡ Some number
IsFoundOf _ found = ⊥
