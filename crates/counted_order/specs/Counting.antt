-- Happens-before told by counting: records are compared at the level of nesting where the paths of their tasks part.
use Rattle.std.specs.Prelude.{◌≡◌, ℕ, ◌<◌}
use Rattle.race_model.specs.Trace.{Logs, Node, barriers_before}
use Rattle.race_model.specs.Order.{IsLane}

-- the first record is the second one, or a Region record below which the second one hangs
pub data IsAbove (logs : Logs) : Node → Node → Type 0 where
  itself : (x : Node) → IsAbove logs x x
  lane : (above fork x : Node) (number span : ℕ) → IsLane logs fork number span x.path → IsAbove logs above fork → IsAbove logs above x

-- one task has a record above the first that comes before one above the second
pub record IsEarlierInTask (logs : Logs) (x y : Node) : Type 0 where
  pub mine : Node
  pub yours : Node
  pub my_part : IsAbove logs mine x
  pub your_part : IsAbove logs yours y
  pub same_log : mine.path ≡ yours.path
  pub earlier : mine.index < yours.index

-- lanes of one region have records above the two
pub record StandInTeam (logs : Logs) (x y : Node) : Type 0 where
  pub fork : Node
  pub span : ℕ
  pub my_lane : ℕ
  pub your_lane : ℕ
  pub mine : Node
  pub yours : Node
  pub my_part : IsAbove logs mine x
  pub your_part : IsAbove logs yours y
  pub my_team : IsLane logs fork my_lane span mine.path
  pub your_team : IsLane logs fork your_lane span yours.path

-- the first of these lanes had passed fewer barriers
pub record HasFewerBarriers (logs : Logs) (x y : Node) : Type 0 where
  pub team : StandInTeam logs x y
  pub fewer : barriers_before logs team.mine < barriers_before logs team.yours

-- counting says that x happens before y
pub data IsCountedBefore (logs : Logs) (x y : Node) : Type 0 where
  above : IsAbove logs x y → IsCountedBefore logs x y
  in_task : IsEarlierInTask logs x y → IsCountedBefore logs x y
  in_team : HasFewerBarriers logs x y → IsCountedBefore logs x y

-- counting says that neither happens before the other: they are in two lanes of one region, which had passed as many barriers
pub record AreBetweenBarriers (logs : Logs) (x y : Node) : Type 0 where
  pub team : StandInTeam logs x y
  pub two_lanes : team.my_lane ≡ team.your_lane → ⊥
  pub as_many : barriers_before logs team.mine ≡ barriers_before logs team.yours
