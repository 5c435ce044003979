-- One task against its log.
use Rattle.std.specs.Prelude.{◌≡◌, ℕ, List, [], ◌∷◌, ◌++◌, Result, Ok, Err}
use Rattle.log_format.specs.declared.record.Record.{Record}
use Rattle.log_format.specs.declared.record.Kind.TheVariants as kind
use Rattle.kernel_syntax.specs.Program.{Program}
use Rattle.kernel_model.specs.State.{Fork, event}
use Rattle.kernel_model.specs.Trace.{Start}
use Rattle.kernel_model.specs.Folder.{own_trace, IsTraced}
use Rattle.log_replay.specs.Differing.{DiffersAt}
use Rattle.log_replay.specs.Following.{Standing}
use Rattle.log_replay.specs.declared.stray.Stray.{Stray}
use Rattle.log_replay.specs.declared.stray.Stray.TheVariants as stray

-- the log is the task's trace under what it reads and draws itself, and these are the regions that the task forked
pub record IsFollowed (program : Program) (start : Start) (log : List Record) (forks : List Fork) : Type 0 where
  pub traced : IsTraced program start log
  pub forks_are : (own_trace program start log).forks ≡ forks

-- the log differs from the trace first at the record that is named
abbrev pub StraysSo : Program → Start → List Record → Stray → Type 0
StraysSo program start log (stray.Differs number) = DiffersAt (own_trace program start log).records log number
StraysSo program start log _ = Unit {0}

-- what is answered of a task that stands so, and its log
abbrev pub Compares : Program → Start → List Record → Standing → Result (Unit {0}) Stray → Type 0
Compares program start log x (Ok _) = IsFollowed program start log x.forks
Compares program start log x (Err e) = StraysSo program start log e

-- what is answered of a log after the records of the task's body, where the trace ends with an End of this line
abbrev pub EndsLog : List Record → List Record → ℕ → Standing → Standing → Result (Unit {0}) Stray → Type 0
EndsLog log done line old new (Ok _) = (log ≡ done ++ event kind.End line 0 0 ∷ []) × (new.forks ≡ old.forks)
EndsLog log done line old new (Err (stray.Differs number)) = DiffersAt (done ++ event kind.End line 0 0 ∷ []) log number
EndsLog log done line old new (Err _) = Unit {0}
