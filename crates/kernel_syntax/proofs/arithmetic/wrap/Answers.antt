-- The remainder that isn't negative is the wrapped value, or that plus the range.
use Rattle.std.proofs.Common.{rules, arith, ap, ◌∙◌, sym, ◌≡◌, pos, ◌≤ℤ◌, ◌-ℤ◌, ℤ, ◌/◌, ◌<ℤ◌, FitsSigned, w64, to_z, of_z, unsigned_abs, Bool, true, false}
use Rattle.std.specs.Int.{int_rem_euclid}
use Rattle.std.specs.Int.RustNames.{int_lt, int_div}
use Rattle.std.proofs.lemmas.Int.{to_z-of_z, ints}
use Rattle.kernel_syntax.proofs.Wrapping.{wrapped-small, wrapped-large, range-is, half-is, two_or_more}
use Rattle.kernel_syntax.proofs.arithmetic.wrap.Goals as goal

low-is : (v range low : ℤ) → FitsSigned w64 v → FitsSigned w64 range → pos 2 ≤ℤ range →
    low ≡ int_rem_euclid (to_z w64 (of_z w64 v)) (to_z w64 (of_z w64 range)) → low ≡ int_rem_euclid v (pos (unsigned_abs range))
low-is v range low p q two is =
    is ∙ ap (λ z. int_rem_euclid z (to_z w64 (of_z w64 range))) (to_z-of_z w64 v p) ∙ ap (int_rem_euclid v) (range-is range q two)

test-is : (range low : ℤ) (answer : Bool) → FitsSigned w64 range → FitsSigned w64 low → pos 2 ≤ℤ range →
    int_lt (to_z w64 (of_z w64 low)) (to_z w64 (of_z w64 (int_div (to_z w64 (of_z w64 range)) (pos 2)))) ≡ answer →
    int_lt low (pos (unsigned_abs range / 2)) ≡ answer
test-is range low answer q l two is =
    sym (ap (λ z. int_lt z (to_z w64 (of_z w64 (int_div (to_z w64 (of_z w64 range)) (pos 2))))) (to_z-of_z w64 low l) ∙ ap (int_lt low) (half-is range q two)) ∙ is

below : (a b : ℤ) → int_lt a b ≡ true → a <ℤ b
below a b h = grind (arith, ints)

above : (a b : ℤ) → int_lt a b ≡ false → b ≤ℤ a
above a b h = grind (arith, ints)

pub returns-then-low-range : goal.returns-then-low-range
returns-then-low-range c =
    let fits : FitsSigned w64 c.rem_euclid-low.result = search rules in
    let two = c.requires.low in
    to_z-of_z w64 _ fits
    ∙ wrapped-small c.args.value _ _ (two_or_more _ two) (low-is _ _ _ c.ranges.value c.ranges.range two c.rem_euclid-low.ensures.value)
    (below _ _ (test-is _ _ true c.ranges.range fits two c.if-low-range.true))

difference-is : (range low : ℤ) → FitsSigned w64 range → FitsSigned w64 low → pos 2 ≤ℤ range →
    to_z w64 (of_z w64 low) -ℤ to_z w64 (of_z w64 range) ≡ low -ℤ pos (unsigned_abs range)
difference-is range low q l two =
    ap (λ z. z -ℤ to_z w64 (of_z w64 range)) (to_z-of_z w64 low l) ∙ ap (λ z. low -ℤ z) (range-is range q two)

pub returns-else-low-range : goal.returns-else-low-range
returns-else-low-range c =
    let fits : FitsSigned w64 c.rem_euclid-low.result = search rules in
    let two = c.requires.low in
    let difference_fits : FitsSigned w64 (to_z w64 (of_z w64 c.rem_euclid-low.result) -ℤ to_z w64 (of_z w64 c.args.range)) = omega (arith, ints) in
    to_z-of_z w64 _ difference_fits
    ∙ difference-is _ _ c.ranges.range fits two
    ∙ wrapped-large c.args.value _ _ (two_or_more _ two) (low-is _ _ _ c.ranges.value c.ranges.range two c.rem_euclid-low.ensures.value)
    (above _ _ (test-is _ _ false c.ranges.range fits two c.if-low-range.false))
