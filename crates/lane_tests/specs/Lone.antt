-- Statements that a lane of the tests can execute alone.
use Rattle.std.specs.Prelude.{ℕ, List}
use Rattle.kernel_syntax.specs.Bounds.{IsBoundedCode}
use Rattle.kernel_syntax.specs.Tree.{Code}
use Rattle.lane_runner.specs.Alone.{IsAlone}

-- they are within the bounds of the language, and a lane that holds these of the mutexes, of which there is one, may execute them alone
pub record IsLone (held : List ℕ) (code : Code) : Type 0 where
  pub bounded : IsBoundedCode code
  pub alone : IsAlone 1 held code
