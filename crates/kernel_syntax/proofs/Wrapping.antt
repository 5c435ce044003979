-- Wrapping to 64 bits is what the machine's operations do.
use Rattle.std.proofs.Common.{◌≡◌, refl, ap, sym, ◌∙◌, ℕ, zero, suc, ◌-◌, ◌/◌, ◌%◌, ◌^◌, ◌<◌, ◌≤◌, ℤ, pos, negsuc, neg_ℤ, ◌+ℤ◌, ◌-ℤ◌, ◌*ℤ◌, ◌<ℤ◌, ◌≤ℤ◌, FitsSigned, w64, arith, le_trans}
use Rattle.std.specs.Int.{int_wrap, int_rem_euclid, int_wrapping_add, int_wrapping_sub, int_wrapping_mul, int_wrapping_div, cast_signed, cast_unsigned}
use Rattle.std.specs.Int.RustNames.{int_div, unsigned_abs}
use Rattle.std.proofs.Math.Nat.{mod-eq_of_lt, mod-lt, div-le_self}
use Rattle.std.proofs.lemmas.Bool.Decides.{nat_tests}
use Rattle.std.proofs.lemmas.Int.{wrapping_add_is, wrapping_sub_is, wrapping_mul_is, int_wrap_fits, to_z-of_z, fits_signed_from_abs, ints}
use Rattle.log_format.specs.Fitting.{wrapped, signed}

pub wrapped-64 : (z : ℤ) → wrapped (2 ^ 64) z ≡ int_wrap w64 z
unfolding wrapped int_wrap
wrapped-64 z = refl

pub wrapping_add-wrapped : (x y : ℤ) → FitsSigned w64 x → FitsSigned w64 y → int_wrapping_add w64 x y ≡ wrapped (2 ^ 64) (x +ℤ y)
wrapping_add-wrapped x y p q = wrapping_add_is w64 x y p q ∙ sym (wrapped-64 (x +ℤ y))

pub wrapping_sub-wrapped : (x y : ℤ) → FitsSigned w64 x → FitsSigned w64 y → int_wrapping_sub w64 x y ≡ wrapped (2 ^ 64) (x -ℤ y)
wrapping_sub-wrapped x y p q = wrapping_sub_is w64 x y p q ∙ sym (wrapped-64 (x -ℤ y))

pub wrapping_mul-wrapped : (x y : ℤ) → FitsSigned w64 x → FitsSigned w64 y → int_wrapping_mul w64 x y ≡ wrapped (2 ^ 64) (x *ℤ y)
wrapping_mul-wrapped x y p q = wrapping_mul_is w64 x y p q ∙ sym (wrapped-64 (x *ℤ y))

-- a number of at most 64 bits, taken as unsigned and back, is wrapped
casts-wrapped : (z : ℤ) → unsigned_abs z ≤ 2 ^ 63 → cast_signed w64 (cast_unsigned w64 z) ≡ wrapped (2 ^ 64) z
unfolding wrapped
casts-wrapped (pos n) h = let small : n < 2 ^ 64 = omega arith in ap (signed (2 ^ 64)) (sym (mod-eq_of_lt small))
casts-wrapped (negsuc n) h =
    let small : n < 2 ^ 64 = omega arith in
    let same : 2 ^ 64 - suc n ≡ 2 ^ 64 - 1 - n % 2 ^ 64 = omega (arith, mod-eq_of_lt small) in
    ap (signed (2 ^ 64)) same

-- no quotient is larger than its dividend
unsigned_abs-neg : (n : ℕ) → unsigned_abs (neg_ℤ (pos n)) ≡ n
unsigned_abs-neg zero = refl
unsigned_abs-neg (suc n) = refl

quotient_le : (x y : ℤ) → unsigned_abs (int_div x y) ≤ unsigned_abs x
quotient_le (pos a) (pos b) = div-le_self a b
quotient_le (pos a) (negsuc b) = rw (unsigned_abs-neg (a / suc b)) (div-le_self a (suc b))
quotient_le (negsuc a) (pos b) = rw (unsigned_abs-neg (suc a / b)) (div-le_self (suc a) b)
quotient_le (negsuc a) (negsuc b) = div-le_self (suc a) (suc b)

pub wrapping_div-wrapped : (x y : ℤ) → FitsSigned w64 x → int_wrapping_div w64 x y ≡ wrapped (2 ^ 64) (int_div x y)
wrapping_div-wrapped x y p = casts-wrapped (int_div x y) (le_trans (quotient_le x y) (small x p))
  where
    small : (z : ℤ) → FitsSigned w64 z → unsigned_abs z ≤ 2 ^ 63
    small (pos n) p = omega (arith, p.sfits)
    small (negsuc n) p = omega (arith, p.sfits)

pub wrapped-fits : (z : ℤ) → FitsSigned w64 z → wrapped (2 ^ 64) z ≡ z
wrapped-fits z p = wrapped-64 z ∙ int_wrap_fits w64 z p

-- a remainder that isn't negative, and the number that it stands for
pub remainder-is : (z : ℤ) (r : ℕ) → 0 < r → (n : ℕ) × (int_rem_euclid z (pos r) ≡ pos n) × (n < r)
remainder-is (pos a) r h = (a % r, refl, mod-lt a h)
remainder-is (negsuc a) r h = (r - 1 - a % r, refl, omega (arith, mod-lt a h))

pub signed-small : (r n : ℕ) → n < r / 2 → signed r n ≡ pos n
signed-small r n h = grind (arith, nat_tests)

signed-large : (r n : ℕ) → r / 2 ≤ n → n < r → signed r n ≡ pos n -ℤ pos r
signed-large r n h k =
    let high : signed r n ≡ negsuc (r - suc n) = grind (arith, nat_tests) in high ∙ omega (arith, ints)

pub wrapped-small : (z low : ℤ) (r : ℕ) → 2 ≤ r → low ≡ int_rem_euclid z (pos r) → low <ℤ pos (r / 2) → low ≡ wrapped r z
unfolding wrapped
wrapped-small z low r two is below =
    let rem = remainder-is z r (omega arith) in
    let small : rem.0 < r / 2 = omega (arith, ints, is ∙ rem.1, below) in
    is ∙ rem.1 ∙ sym (signed-small r rem.0 small) ∙ ap (λ w. signed r (unsigned_abs w)) (sym rem.1)

pub wrapped-large : (z low : ℤ) (r : ℕ) → 2 ≤ r → low ≡ int_rem_euclid z (pos r) → pos (r / 2) ≤ℤ low → low -ℤ pos r ≡ wrapped r z
unfolding wrapped
wrapped-large z low r two is above =
    let rem = remainder-is z r (omega arith) in
    let large : r / 2 ≤ rem.0 = omega (arith, ints, is ∙ rem.1, above) in
    ap (λ w. w -ℤ pos r) (is ∙ rem.1) ∙ sym (signed-large r rem.0 large rem.2) ∙ ap (λ w. signed r (unsigned_abs w)) (sym rem.1)

-- the machine's words for a range from 2 on, and for half of it
pub range-is : (range : ℤ) → FitsSigned w64 range → pos 2 ≤ℤ range → cast_signed w64 (cast_unsigned w64 range) ≡ pos (unsigned_abs range)
range-is (pos r) p two = to_z-of_z w64 (pos r) p
range-is (negsuc r) p two = absurd (omega (arith, ints, two))

pub half-is : (range : ℤ) → FitsSigned w64 range → pos 2 ≤ℤ range →
    cast_signed w64 (cast_unsigned w64 (int_div (cast_signed w64 (cast_unsigned w64 range)) (pos 2))) ≡ pos (unsigned_abs range / 2)
half-is range p two =
    ap (λ z. cast_signed w64 (cast_unsigned w64 (int_div z (pos 2)))) (range-is range p two)
    ∙ to_z-of_z w64 (pos (unsigned_abs range / 2)) (small range p two)
  where
    small : (z : ℤ) → FitsSigned w64 z → pos 2 ≤ℤ z → FitsSigned w64 (pos (unsigned_abs z / 2))
    small (pos r) p two = fits_signed_from_abs w64 (pos (r / 2)) (omega (arith, p.sfits, div-le_self r 2))
    small (negsuc r) p two = absurd (omega (arith, ints, two))

pub two_or_more : (range : ℤ) → pos 2 ≤ℤ range → 2 ≤ unsigned_abs range
two_or_more (pos r) two = omega (arith, ints, two)
two_or_more (negsuc r) two = absurd (omega (arith, ints, two))
