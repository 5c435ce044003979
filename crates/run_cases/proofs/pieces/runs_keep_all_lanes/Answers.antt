use Rattle.run_cases.proofs.PieceCases.{lane_missing}
use Rattle.run_cases.proofs.pieces.runs_keep_all_lanes.Goals as goal

pub returns : goal.returns
returns c = lane_missing
