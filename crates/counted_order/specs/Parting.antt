-- Unordered records told by the paths of their tasks, and by the barriers passed at the level where these part.
use Rattle.std.specs.Prelude.{◌≡◌, ℕ, ◌+◌, List, length, take, Some, slice_get}
use Rattle.sw_base.specs.declared.path.Step.{Step}
use Rattle.race_model.specs.Trace.{Logs, Node, barriers_before}
use Rattle.counted_order.specs.Counting.{IsAbove}

-- the two paths share so many steps, and then go into two lanes of one region
pub record PartInLanes (path other : List Step) (level : ℕ) : Type 0 where
  pub step : Step
  pub beside : Step
  pub mine : slice_get path level ≡ Some step
  pub yours : slice_get other level ≡ Some beside
  pub shared : take level path ≡ take level other
  pub same_region : step.region ≡ beside.region
  pub two_lanes : step.lane ≡ beside.lane → ⊥

-- in the lane below this level, the record or the Region through which it hangs comes after so many barriers
pub record ComesAfterBarriers (logs : Logs) (x : Node) (level barriers : ℕ) : Type 0 where
  pub above : Node
  pub part : IsAbove logs above x
  pub deep : length above.path ≡ level + 1
  pub passed : barriers_before logs above ≡ barriers

-- the records are in two lanes of one region, which had passed as many barriers
pub record PartBetweenBarriers (logs : Logs) (x y : Node) : Type 0 where
  pub level : ℕ
  pub barriers : ℕ
  pub parts : PartInLanes x.path y.path level
  pub mine : ComesAfterBarriers logs x level barriers
  pub yours : ComesAfterBarriers logs y level barriers
