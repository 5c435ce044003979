-- Lines that wait until they are printed together.
use Rattle.std.specs.Prelude.{◌≡◌, ℕ, List, ◌++◌, Option}
use Rattle.sw_base.specs.Environment.{gained}

-- the text came after what waited; so much of both was written, and the rest waits
pub record PrintsInPieces (old : Option (List ℕ)) (waited : List ℕ) (new : Option (List ℕ)) (waits text : List ℕ) : Type 0 where
  pub sent : List ℕ
  pub parts : waited ++ text ≡ sent ++ waits
  pub gains : new ≡ gained old sent

-- only a prefix of the text came, or less than what waited is left
pub record PrintsPrefix (old : Option (List ℕ)) (waited : List ℕ) (new : Option (List ℕ)) (waits text : List ℕ) : Type 0 where
  pub sent : List ℕ
  pub rest : List ℕ
  pub parts : waited ++ text ≡ sent ++ (waits ++ rest)
  pub gains : new ≡ gained old sent
