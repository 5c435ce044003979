use Rattle.std.proofs.Common.{length}
use Rattle.team_live.proofs.first.+run_lanes.Given as goal

abbrev pub decreases-run_lanes : goal.decreases-run_lanes
decreases-run_lanes g l = length l.lanes.now.items
