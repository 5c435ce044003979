-- The tasks under one region of the root.
use Rattle.std.specs.Prelude.{◌≡◌, ℕ, List, ◌∷◌}
use Rattle.sw_base.specs.declared.path.Step.{Step}

-- the task is a lane of the root's region of this number, or under one
pub record IsUnderRegion (region : ℕ) (path : List Step) : Type 0 where
  pub first : Step
  pub rest : List Step
  pub parts : path ≡ first ∷ rest
  pub region_is : first.region ≡ region
