-- The machine's sums, differences and products are the wrapped ones.
use Rattle.std.proofs.Common.{ap, Some, ◌∙◌, sym}
use Rattle.kernel_syntax.specs.declared.syntax.Op.{Op}
use Rattle.kernel_syntax.specs.Arithmetic.{applied}
use Rattle.kernel_syntax.proofs.Wrapping.{wrapping_add-wrapped, wrapping_sub-wrapped, wrapping_mul-wrapped}
use Rattle.kernel_syntax.proofs.arithmetic.apply.Goals as goal

pub returns-in-Add : goal.returns-in-Add
returns-in-Add c =
    ap Some (wrapping_add-wrapped _ _ c.ranges.left c.ranges.right) ∙ ap (λ (op : Op). applied op c.args.left c.args.right) (sym c.in-Add.is)

pub returns-in-Sub : goal.returns-in-Sub
returns-in-Sub c =
    ap Some (wrapping_sub-wrapped _ _ c.ranges.left c.ranges.right) ∙ ap (λ (op : Op). applied op c.args.left c.args.right) (sym c.in-Sub.is)

pub returns-in-Mul : goal.returns-in-Mul
returns-in-Mul c =
    ap Some (wrapping_mul-wrapped _ _ c.ranges.left c.ranges.right) ∙ ap (λ (op : Op). applied op c.args.left c.args.right) (sym c.in-Mul.is)
