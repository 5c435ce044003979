-- A run with some barrier intervals, of which its last task has two.
use Rattle.std.specs.Prelude.{ℕ, List, [], ◌∷◌, ◌++◌, replicate}
use Rattle.sw_base.specs.declared.path.Step.{Step}
use Rattle.log_format.specs.declared.record.Record.{Record}
use Rattle.log_format.specs.declared.record.Kind.TheVariants as kind
use Rattle.race_model.specs.Trace.{TaskLog, Trace}
use Rattle.kernel_model.specs.State.{event}

abbrev pub one_write : Record
one_write = record { kind = kind.Write; size = 8; site = 0; line = 3; addr = 4096; value = 1 }

-- a task with one
abbrev pub one_interval : TaskLog
one_interval = record { path = []; records = one_write ∷ [] }

abbrev pub last_path : List Step
last_path = record { region = 0; lane = 1; span = 2 } ∷ []

-- and one whose third record opens its second
abbrev pub two_intervals : TaskLog
two_intervals = record { path = last_path; records = one_write ∷ event kind.Barrier 4 0 0 ∷ one_write ∷ [] }

abbrev pub run_with : ℕ → Trace
run_with n = replicate n one_interval ++ two_intervals ∷ []
