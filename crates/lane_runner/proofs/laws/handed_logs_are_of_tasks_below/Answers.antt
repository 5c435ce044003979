use Rattle.lane_runner.proofs.HandedTasks.{regions_under}
use Rattle.lane_runner.proofs.laws.handed_logs_are_of_tasks_below.Goals as goal

pub returns : goal.returns
returns c = regions_under
