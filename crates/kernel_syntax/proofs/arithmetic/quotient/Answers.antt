-- The machine's quotient, wrapped, is the quotient of the definition.
use Rattle.std.proofs.Common.{rules, ◌≡◌, ap, ◌∙◌, refl, ◌^◌, FitsSigned, w64, ℤ, pos, negsuc, zero, suc, of_z, to_z, Some}
use Rattle.std.specs.Int.{int_wrapping_div}
use Rattle.std.specs.Int.RustNames.{int_div}
use Rattle.std.proofs.lemmas.Int.{to_z-of_z}
use Rattle.log_format.specs.Fitting.{wrapped}
use Rattle.kernel_syntax.specs.Arithmetic.{quotient}
use Rattle.kernel_syntax.proofs.Wrapping.{wrapping_div-wrapped}
use Rattle.kernel_syntax.proofs.arithmetic.quotient.Goals as goal

divided : (x y r : ℤ) → FitsSigned w64 x → FitsSigned w64 y → FitsSigned w64 r →
    r ≡ int_wrapping_div w64 (to_z w64 (of_z w64 x)) (to_z w64 (of_z w64 y)) → to_z w64 (of_z w64 r) ≡ wrapped (2 ^ 64) (int_div x y)
divided x y r p q f is =
    to_z-of_z w64 r f ∙ is
    ∙ ap (λ z. int_wrapping_div w64 z (to_z w64 (of_z w64 y))) (to_z-of_z w64 x p)
    ∙ ap (int_wrapping_div w64 x) (to_z-of_z w64 y q)
    ∙ wrapping_div-wrapped x y p

-- by cases on the divisor, which isn't 0
at_divisor : (x y r : ℤ) → (of_z w64 y ≡ 0 → ⊥) → r ≡ wrapped (2 ^ 64) (int_div x y) → Some r ≡ quotient x y
at_divisor x (pos zero) r nonzero is = absurd (nonzero refl)
at_divisor x (pos (suc y)) r nonzero is = ap Some is
at_divisor x (negsuc y) r nonzero is = ap Some is

pub returns-else-right-eq0 : goal.returns-else-right-eq0
returns-else-right-eq0 c =
    let fits : FitsSigned w64 c.wrapping_div.result = search rules in
    at_divisor _ _ _ c.if-right-eq0.false (divided _ _ _ c.ranges.left c.ranges.right fits c.wrapping_div.ensures)
