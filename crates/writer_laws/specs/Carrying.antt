-- When the records of another run are ordered as those of this one: a relation of records that goes up to the regions above, and keeps teams.
use Rattle.std.specs.Prelude.{◌≡◌, ℕ}
use Rattle.race_model.specs.Trace.{Logs, Node, barriers_before}
use Rattle.race_model.specs.Order.{IsLane}

-- the record of the other run is in a lane of this number, of a region that answers to this one
pub record IsInLaneToo (Answers : Node → Node → Type 0) (others : Logs) (v fork : Node) (n s : ℕ) : Type 0 where
  pub region : Node
  pub lane : IsLane others region n s v.path
  pub answers : Answers fork region

-- these lanes of one region, which had passed as many barriers
pub record AreInTeamToo (others : Logs) (v w : Node) (n m s : ℕ) : Type 0 where
  pub region : Node
  pub mine : IsLane others region n s v.path
  pub yours : IsLane others region m s w.path
  pub as_many : barriers_before others v ≡ barriers_before others w

-- v answers to x, and w to y: then v and w are unordered where x and y are
pub record Carries (Answers : Node → Node → Type 0) (logs others : Logs) : Type 0 where
  pub lanes : (x v fork : Node) (n s : ℕ) → Answers x v → IsLane logs fork n s x.path → IsInLaneToo Answers others v fork n s
  pub teams : (x y v w fork : Node) (n m s : ℕ) → Answers x v → Answers y w → IsLane logs fork n s x.path → IsLane logs fork m s y.path
      → barriers_before logs x ≡ barriers_before logs y → AreInTeamToo others v w n m s
