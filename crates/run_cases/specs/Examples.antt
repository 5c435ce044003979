-- What an example of a certain kernel is, one of a kernel with a race, and one of a kernel whose mutexes hide a race.
use Rattle.std.specs.Prelude.{ℕ}
use Rattle.race_model.specs.Race.{IsRacePair}
use Rattle.race_model.specs.Trace.{Trace, logs_of}
use Rattle.kernel_syntax.specs.Program.{Program}
use Rattle.kernel_model.specs.Lawful.{IsLawful}
use Rattle.certainty_model.specs.Certain.{IsFixed, IsRun, IsCertain, AreSame}

-- a lawful kernel with a certain run
pub record CertainKernel : Type 0 where
  pub program : Program
  pub lawful : IsLawful program
  pub run : Trace
  pub certain : IsCertain program run

-- two runs of a lawful kernel whose logs differ
pub record HasTwoRuns (program : Program) (one other : Trace) : Type 0 where
  pub lawful : IsLawful program
  pub one_runs : IsRun program one
  pub other_runs : IsRun program other
  pub differ : AreSame program one other → ⊥

-- a lawful kernel that is fixed, and two runs of it whose logs differ
pub record KernelOfTwoRuns : Type 0 where
  pub program : Program
  pub fixed : IsFixed program.main.body
  pub one : Trace
  pub other : Trace
  pub runs : HasTwoRuns program one other

-- a lawful kernel, and two runs of it whose logs differ, neither of which has a race
pub record KernelOfTwoRacelessRuns : Type 0 where
  pub program : Program
  pub one : Trace
  pub other : Trace
  pub runs : HasTwoRuns program one other
  pub one_has_no_race : (pair : ℕ × ℕ) → IsRacePair (logs_of one) pair → ⊥
  pub other_has_no_race : (pair : ℕ × ℕ) → IsRacePair (logs_of other) pair → ⊥
