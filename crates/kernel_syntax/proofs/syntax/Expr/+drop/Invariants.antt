use Rattle.std.proofs.Common.{◌≤◌}
use Rattle.kernel_syntax.proofs.syntax.Expr.TheLaws.{the_size}
use Rattle.kernel_syntax.proofs.syntax.Expr.+drop.Given as goal

abbrev pub invariant-loop-self : goal.invariant-loop-self
invariant-loop-self l = the_size l.self ≤ the_size l.initial.self
