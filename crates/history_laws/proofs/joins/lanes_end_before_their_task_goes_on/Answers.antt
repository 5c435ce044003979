use Rattle.history_laws.proofs.EndedLanes.{lanes_end}
use Rattle.history_laws.proofs.joins.lanes_end_before_their_task_goes_on.Goals as goal

pub returns : goal.returns
returns c = lanes_end
