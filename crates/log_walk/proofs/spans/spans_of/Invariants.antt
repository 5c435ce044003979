use Rattle.log_walk.proofs.SpanOrder.{Met}
use Rattle.log_walk.proofs.spans.spans_of.Given as goal

abbrev pub invariant-rows : goal.invariant-rows
invariant-rows l = Met l.rows l.task-inside.path l.at l.spans.items
