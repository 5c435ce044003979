use Rattle.lane_runner.proofs.HandedTasks.{tree_listed}
use Rattle.lane_runner.proofs.laws.handed_logs_are_those_of_the_tasks.Goals as goal

pub returns : goal.returns
returns c = tree_listed
