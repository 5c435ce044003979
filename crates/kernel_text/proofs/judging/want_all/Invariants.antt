use Rattle.std.proofs.Common.{◌≡◌, ◌++◌, length}
use Rattle.kernel_text.specs.Wanting.{stack_of}
use Rattle.kernel_text.proofs.judging.want_all.Given as goal

abbrev pub invariant-wants : goal.invariant-wants
invariant-wants l = l.rest ++ stack_of l.stack.items ≡ l.fn.wants ++ stack_of l.fn.stack.items

abbrev pub decreases-wants : goal.decreases-wants
decreases-wants l = length l.rest
