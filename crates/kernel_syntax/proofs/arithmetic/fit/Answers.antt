-- At width 8 the value is itself.
use Rattle.std.proofs.Common.{◌≡◌, ◌≢◌, inl, inr, ap, ◌∙◌, sym, ◌*◌, ◌^◌, ℕ, ℤ, FitsSigned, w64, to_z, of_z}
use Rattle.std.proofs.lemmas.Int.{to_z-of_z}
use Rattle.log_format.specs.Fitting.{fitted, wrapped, IsWidth}
use Rattle.kernel_syntax.proofs.Wrapping.{wrapped-fits}
use Rattle.kernel_syntax.proofs.arithmetic.fit.Goals as goal

eight : (width : ℕ) → width ≢ 1 → width ≢ 2 → width ≢ 4 → IsWidth width → width ≡ 8
eight width a b c (inl h) = absurd (a h)
eight width a b c (inr (inl h)) = absurd (b h)
eight width a b c (inr (inr (inl h))) = absurd (c h)
eight width a b c (inr (inr (inr h))) = h

whole : (z : ℤ) (width : ℕ) → FitsSigned w64 z → width ≡ 8 → to_z w64 (of_z w64 z) ≡ fitted z width
whole z width p is = to_z-of_z w64 z p ∙ sym (wrapped-fits z p) ∙ ap (λ w. wrapped (2 ^ (8 * w)) z) (sym is)

pub returns-else-width-eq4 : goal.returns-else-width-eq4
returns-else-width-eq4 c =
    whole c.args.value c.args.width c.ranges.value (eight _ c.if-width-eq1.false c.if-width-eq2.false c.if-width-eq4.false c.requires)
