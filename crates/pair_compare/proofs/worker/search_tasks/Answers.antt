use Rattle.pair_compare.proofs.Adds.{AddsPairs-next}
use Rattle.pair_compare.proofs.worker.search_tasks.Goals as goal

pub loop-task-preserved : goal.loop-task-preserved
loop-task-preserved c = AddsPairs-next _ _ _ _ _ _ _ c.loop-task-test.true c.task-item.is c.loop-task.invariant c.in_ok-search_task.ensures
