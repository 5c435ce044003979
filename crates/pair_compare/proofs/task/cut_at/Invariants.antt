use Rattle.pair_compare.proofs.Cutting.{CutsBelow}
use Rattle.pair_compare.proofs.task.cut_at.Given as goal

abbrev pub invariant-loop-cut : goal.invariant-loop-cut
invariant-loop-cut l = CutsBelow l.members l.singly l.low l.initial.tasks.items l.tasks.items
