use Rattle.log_walk.proofs.FirstOnce.{row_task_once}
use Rattle.log_walk.proofs.laws.row_tells_its_task.Goals as goal

pub returns : goal.returns
returns c = λ format. row_task_once
