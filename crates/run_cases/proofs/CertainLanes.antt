-- The kernel whose lanes share nothing is certain: no two of its accesses of one byte are unordered.
use Rattle.std.proofs.Common.{◌≡◌, refl, ap, sym, ◌∙◌, ◌⊎◌, inl, inr, ℕ, Some, ◌+◌, ◌*◌, ◌<◌, false, List, arith}
use Rattle.std.proofs.lemmas.Bool.{cases_lt}
use Rattle.std.proofs.lemmas.Option.{slice_get_within}
use Rattle.sw_base.specs.declared.path.Step.{Step}
use Rattle.log_format.specs.declared.record.Record.{Record}
use Rattle.race_model.specs.Race.{IsAccess, IsRace, IsRacePair}
use Rattle.race_model.specs.Trace.{Trace, Node, IsThere, record_at, logs_of}
use Rattle.race_laws.proofs.ProgramOrder.{program_order}
use Rattle.certainty_model.specs.Certain.{IsRun, IsCertain}
use Rattle.run_cases.specs.Examples.{CertainKernel, KernelOfTwoRuns}
use Rattle.run_cases.proofs.TwoLanes.{lane_path}
use Rattle.run_cases.proofs.CopyingLanes.{kernel, is_fixed, lawful, tasks_of, own_run, two_runs}
use Rattle.run_cases.proofs.Accesses.{each_access}

abbrev tasks : Trace
tasks = tasks_of false 1 0

-- each access is of the element of its lane
record IsOwn (lane : ℕ) (path : List Step) (r : Record) : Type 0 where
  by : path ≡ lane_path lane
  at : r.addr ≡ 4096 + 8 * lane
  size : r.size ≡ 8

abbrev Spot : List Step → Record → Type 0
Spot path r = IsOwn 0 path r ⊎ IsOwn 1 path r

spot : (x : Node) (r : Record) → record_at (logs_of tasks) x ≡ Some r → IsAccess r → Spot x.path r
spot = each_access (λ path i r. Spot path r) tasks (
  (tt, (tt, tt)),
  (
    (inl (record { by = refl; at = refl; size = refl }), (tt, tt)),
    ((inr (record { by = refl; at = refl; size = refl }), (inr (record { by = refl; at = refl; size = refl }), (tt, tt))), tt),
  ),
)

-- two accesses of one log are ordered
one_log : (x y : Node) (r s : Record) → IsRace (logs_of tasks) x y r s → x.path ≡ y.path → ⊥
one_log x y r s race same = elim (cases_lt x.index y.index)
    [ inl less ↦ race.unordered.not_before (program_order (logs_of tasks) x y same (omega arith) y_there) | inr more ↦ race.unordered.not_after (program_order (logs_of tasks) y x (sym same) more x_there) ]
  where
    x_there : IsThere (logs_of tasks) x
    x_there = slice_get_within (logs_of tasks x.path) x.index r race.left

    y_there : IsThere (logs_of tasks) y
    y_there = slice_get_within (logs_of tasks y.path) y.index s race.right

no_race : (pair : ℕ × ℕ) → IsRacePair (logs_of tasks) pair → ⊥
no_race pair p = by (spot p.x p.r p.race.left p.race.left_access) (spot p.y p.s p.race.right p.race.right_access)
  where
    by : Spot p.x.path p.r → Spot p.y.path p.s → ⊥
    by (inl one) (inl two) = one_log p.x p.y p.r p.s p.race (one.by ∙ sym two.by)
    by (inr one) (inr two) = one_log p.x p.y p.r p.s p.race (one.by ∙ sym two.by)
    by (inl one) (inr two) = omega (arith, p.race.shares.1, p.race.shares.2)
    by (inr one) (inl two) = omega (arith, p.race.shares.1, p.race.shares.2)

certain : IsCertain (kernel false 1) tasks
certain = record { fixed = is_fixed 1; run = own_run; no_race = no_race }

pub certain_kernel : CertainKernel
certain_kernel = record { program = kernel false 1; lawful = lawful false 1 (omega arith); run = tasks; certain = certain }

-- where lane 1 copies what lane 0 writes, there are two runs
pub copying_kernel : KernelOfTwoRuns
copying_kernel = record { program = kernel false 0; fixed = is_fixed 0; one = tasks_of false 0 1; other = tasks_of false 0 0; runs = two_runs false }
