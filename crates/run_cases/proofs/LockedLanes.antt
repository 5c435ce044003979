-- Where both lanes do so in critical sections of one mutex, there are two runs, too, and neither has a race.
use Rattle.std.proofs.Common.{◌≡◌, refl, ℕ, true, [], ◌∷◌, Some, arith}
use Rattle.std.specs.Prelude.{Contains}
use Rattle.log_format.specs.declared.record.Record.{Record}
use Rattle.race_model.specs.Race.{IsAccess, IsRacePair, held_at}
use Rattle.race_model.specs.Trace.{Node, record_at, logs_of}
use Rattle.run_cases.specs.Examples.{KernelOfTwoRacelessRuns}
use Rattle.run_cases.proofs.CopyingLanes.{kernel, tasks_of, two_runs}
use Rattle.run_cases.proofs.Accesses.{each_access}

-- each access is made under mutex 1
holds_mutex : (found : ℕ) (x : Node) (r : Record) → record_at (logs_of (tasks_of true 0 found)) x ≡ Some r → IsAccess r → Contains {X = ℕ} (held_at (logs_of (tasks_of true 0 found)) x) 1
holds_mutex found = each_access (λ path i r. Contains {X = ℕ} (held_at (logs_of (tasks_of true 0 found)) (record { path = path; index = i })) 1) (tasks_of true 0 found) (
  (tt, (tt, tt)),
  (
    (tt, (held, (tt, (tt, tt)))),
    ((tt, (held, (held, (tt, (tt, tt))))), tt),
  ),
)
  where
    held : Contains {X = ℕ} (1 ∷ []) 1
    held = (0, omega arith, refl)

no_race : (found : ℕ) (pair : ℕ × ℕ) → IsRacePair (logs_of (tasks_of true 0 found)) pair → ⊥
no_race found pair p = p.race.no_mutex 1 (holds_mutex found p.x p.r p.race.left p.race.left_access) (holds_mutex found p.y p.s p.race.right p.race.right_access)

pub locked_kernel : KernelOfTwoRacelessRuns
locked_kernel = record { program = kernel true 0; one = tasks_of true 0 1; other = tasks_of true 0 0; runs = two_runs true; one_has_no_race = no_race 1; other_has_no_race = no_race 0 }
