use Rattle.std.proofs.Common.{length}
use Rattle.kernel_text.specs.Wanting.{stack_of}
use Rattle.kernel_text.proofs.Moving.{Reaches}
use Rattle.kernel_text.proofs.judging.step.Given as goal

abbrev pub invariant-wants : goal.invariant-wants
invariant-wants l = Reaches l.lexeme (stack_of l.fn.stack.items) (stack_of l.stack.items)

abbrev pub decreases-wants : goal.decreases-wants
decreases-wants l = length (stack_of l.stack.items)
