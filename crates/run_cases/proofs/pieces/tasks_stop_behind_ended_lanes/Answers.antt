use Rattle.run_cases.proofs.PieceCases.{ended_region, unended_region}
use Rattle.run_cases.proofs.pieces.tasks_stop_behind_ended_lanes.Goals as goal

pub returns-clause-ended : goal.returns-clause-ended
returns-clause-ended c = ended_region

pub returns-clause-unended : goal.returns-clause-unended
returns-clause-unended c = unended_region
