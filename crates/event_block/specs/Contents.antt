-- What is seen of a block.
use Rattle.std.specs.Prelude.{ℕ, List}

-- how many bytes it may hold, and those that it holds
pub record Contents : Type 0 where
  pub size : ℕ
  pub bytes : List ℕ
