-- A run in two parts, which come one after the other: each has some of the root's regions and all that is under them.
use Rattle.std.specs.Prelude.{◌≡◌, ℕ, ◌+◌, List, [], ◌∷◌, ◌++◌}
use Rattle.sw_base.specs.declared.path.Step.{Step}
use Rattle.log_format.specs.declared.record.Record.{Record}
use Rattle.log_format.specs.declared.record.Kind.TheVariants.{End}
use Rattle.race_model.specs.Order.{IsLane}
use Rattle.race_model.specs.ForkJoin.{IsTask}
use Rattle.race_model.specs.Trace.{Logs, Node, region_count}
use Rattle.writer_laws.specs.Renumbering.{IsFrom, AreForked}

-- the root's regions of a part were so many later
abbrev pub later_number : ℕ → List Step → ℕ → ℕ
later_number k [] r = r + k
later_number k (step ∷ below) r = r

-- each task below the root has the log that it had, where so many regions of the root came before the part
abbrev pub KeepsLogs : ℕ → Logs → Logs → Type 0
KeepsLogs k logs part = (path other : List Step) (fork : Node) (n s : ℕ) → IsFrom (later_number k) path other → IsLane part fork n s other → part other ≡ logs path

-- the root's log is cut in two, and the tasks go with their regions
pub record IsSplit (logs one two : Logs) : Type 0 where
  pub before : List Record
  pub after : List Record
  pub ended : Record
  pub root : logs [] ≡ before ++ after
  pub first_root : one [] ≡ before ++ ended ∷ []
  pub second_root : two [] ≡ after
  pub ends : ended.kind ≡ End
  pub goes_on : IsTask two []
  pub first_forked : AreForked one
  pub second_forked : AreForked two
  pub first_tasks : KeepsLogs 0 logs one
  pub second_tasks : KeepsLogs (region_count before) logs two
