use Rattle.std.proofs.Common.{◌≡◌, ◌≤◌, take}
use Rattle.kernel_text.specs.Tokens.{value_of}
use Rattle.kernel_text.proofs.lexing.value_of.Given as goal

abbrev pub invariant-loop-digit : goal.invariant-loop-digit
invariant-loop-digit l = (l.value ≡ value_of (take l.digit-index l.digits)) × (l.value ≤ 9223372036854775807)
