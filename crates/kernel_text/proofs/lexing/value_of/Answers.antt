use Rattle.std.proofs.Common.{sym, arith}
use Rattle.kernel_text.proofs.Prefixes.{too_large_so_far}
use Rattle.kernel_text.proofs.lexing.value_of.Goals as goal

pub returns-then-value : goal.returns-then-value
returns-then-value c = sym (too_large_so_far c.args.digits.now c.loop-digit.digit-index c.loop-digit.value c.loop-digit.invariant.0 c.loop-digit-test.true (omega arith))

pub returns-then-value-gt-MOST_VALUE : goal.returns-then-value-gt-MOST_VALUE
returns-then-value-gt-MOST_VALUE c = sym (too_large_so_far c.args.digits.now c.loop-digit.digit-index c.loop-digit.value c.loop-digit.invariant.0 c.loop-digit-test.true (omega arith))
