use Rattle.run_cases.proofs.StoppedLane.{stopped}
use Rattle.run_cases.proofs.stopped.a_lane_stops.Goals as goal

pub returns : goal.returns
returns c = stopped
