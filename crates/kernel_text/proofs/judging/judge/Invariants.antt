use Rattle.std.proofs.Common.{length}
use Rattle.kernel_text.specs.Wanting.{stack_of}
use Rattle.kernel_text.proofs.JudgingTokens.{Judged}
use Rattle.kernel_text.proofs.judging.judge.Given as goal

abbrev pub invariant-tokens : goal.invariant-tokens
invariant-tokens l = Judged l.fn.tokens l.rest (stack_of l.stack.items)

abbrev pub decreases-tokens : goal.decreases-tokens
decreases-tokens l = length l.rest
