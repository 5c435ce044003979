use Rattle.std.proofs.Common.{◌≡◌, ap, ◌∙◌, ℤ, pos, neg_ℤ, ◌-ℤ◌, ◌^◌, w64, FitsSigned, arith}
use Rattle.std.proofs.lemmas.Int.{ints}
use Rattle.log_format.specs.Fitting.{wrapped}
use Rattle.kernel_syntax.proofs.Wrapping.{wrapping_sub-wrapped}
use Rattle.kernel_model.proofs.change.negate.Goals as goal

from_zero : (x : ℤ) → pos 0 -ℤ x ≡ neg_ℤ x
from_zero x = omega (arith, ints)

pub returns : goal.returns
returns c =
    let zero' : FitsSigned w64 (pos 0) = record { sfits = omega arith } in
    wrapping_sub-wrapped (pos 0) c.args.value zero' c.ranges.value ∙ ap (wrapped (2 ^ 64)) (from_zero c.args.value)
