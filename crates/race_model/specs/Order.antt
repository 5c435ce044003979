-- Happens-before of a fork-join run: program order, and the edges of forks, joins and team barriers
-- (OpenMP 5.2, the parallel construct and the barrier construct).
use Rattle.std.specs.Prelude.{◌≡◌, ℕ, ◌+◌, ◌<◌, List, Some}
use Rattle.sw_base.specs.declared.path.Step.{Step}
use Rattle.log_format.specs.declared.record.Record.{Record}
use Rattle.log_format.specs.declared.record.Kind.TheVariants.{Barrier, Region, End}
use Rattle.race_model.specs.Listing.{lane_of}
use Rattle.race_model.specs.Trace.{Logs, Node, record_at, IsThere, HasKind, regions_before, barriers_before}

-- the lane of this number at the fork's region, which has this span
abbrev pub lane_path : Logs → Node → ℕ → ℕ → List Step
lane_path logs fork lane span = lane_of fork.path (regions_before logs fork) lane span

-- the node is a Region record of this span, and the path is that of its lane of this number
pub record IsLane (logs : Logs) (fork : Node) (lane span : ℕ) (path : List Step) : Type 0 where
  pub event : Record
  pub found : record_at logs fork ≡ Some event
  pub region : event.kind ≡ Region
  pub spans : event.value ≡ span
  pub in_span : lane < span
  pub child : path ≡ lane_path logs fork lane span

-- y is the next record of x's log
pub record IsNext (x y : Node) : Type 0 where
  pub same_log : y.path ≡ x.path
  pub after : y.index ≡ x.index + 1

-- x forks a region, and y is the first record of one of its lanes
pub record IsForkEdge (logs : Logs) (x y : Node) : Type 0 where
  pub lane : ℕ
  pub span : ℕ
  pub forked : IsLane logs x lane span y.path
  pub first : y.index ≡ 0

-- x ends a lane, and y follows the record that forked it
pub record IsJoinEdge (logs : Logs) (x y : Node) : Type 0 where
  pub fork : Node
  pub lane : ℕ
  pub span : ℕ
  pub forked : IsLane logs fork lane span x.path
  pub ended : HasKind logs x End
  pub after : IsNext fork y

-- x is a barrier of a team, and y follows the barrier of that number in a lane of the same team
pub record IsBarrierEdge (logs : Logs) (x y : Node) : Type 0 where
  pub fork : Node
  pub span : ℕ
  pub from_lane : ℕ
  pub from_team : IsLane logs fork from_lane span x.path
  pub reached : HasKind logs x Barrier
  pub met : Node
  pub to_lane : ℕ
  pub to_team : IsLane logs fork to_lane span met.path
  pub meets : HasKind logs met Barrier
  pub same_number : barriers_before logs x ≡ barriers_before logs met
  pub after : IsNext met y

pub data Edge (logs : Logs) (x y : Node) : Type 0 where
  next : IsNext x y → Edge logs x y
  fork : IsForkEdge logs x y → Edge logs x y
  join : IsJoinEdge logs x y → Edge logs x y
  barrier : IsBarrierEdge logs x y → Edge logs x y

-- an edge between two records of the run
pub record HasEdge (logs : Logs) (x y : Node) : Type 0 where
  pub from_there : IsThere logs x
  pub to_there : IsThere logs y
  pub edge : Edge logs x y

-- the smallest reflexive and transitive relation that has the edges
pub data HappensBefore (logs : Logs) : Node → Node → Type 0 where
  here : (x : Node) → HappensBefore logs x x
  step : (x y z : Node) → HasEdge logs x y → HappensBefore logs y z → HappensBefore logs x z
