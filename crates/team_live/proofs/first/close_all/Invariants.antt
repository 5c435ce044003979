use Rattle.std.proofs.Common.{◌≡◌, ℕ, ◌<◌, ◌≤◌}
use Rattle.hand_over.specs.Views.{turn_at}
use Rattle.hand_over.specs.declared.view.Turn.TheVariants.{Idle}
use Rattle.team_live.specs.Turns.{AreClosed}
use Rattle.team_live.proofs.first.close_all.Given as goal

abbrev pub invariant-loop-lane : goal.invariant-loop-lane
invariant-loop-lane g l = (l.desk.table ≡ l.parcels) × AreClosed l.lane l.desk.turns × ((other : ℕ) → l.lane ≤ other → other < l.span → turn_at l.desk.turns other ≡ Idle)
