use Rattle.std.proofs.Common.{take}
use Rattle.pair_compare.specs.Conflict.{AddsPairs, OneHas}
use Rattle.pair_compare.specs.Work.{IsTaskPair}
use Rattle.pair_compare.proofs.worker.search_tasks.Given as goal

abbrev pub invariant-loop-task : goal.invariant-loop-task
invariant-loop-task l = AddsPairs l.initial.pairs.keys l.pairs.keys (OneHas IsTaskPair (take l.task-index l.tasks))
