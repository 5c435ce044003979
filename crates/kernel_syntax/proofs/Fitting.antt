-- What an element of a width can hold: it fits 64 bits, and to store it again changes nothing.
use Rattle.std.proofs.Common.{◌≡◌, ap, sym, ◌∙◌, subst, inl, inr, ⊎_elim, ℕ, suc, ◌-◌, ◌*◌, ◌/◌, ◌%◌, ◌^◌, ◌<◌, ◌≤◌, ℤ, negsuc, FitsSigned, w64, arith}
use Rattle.std.specs.Int.RustNames.{unsigned_abs}
use Rattle.std.proofs.Math.Nat.{mod-eq_of_lt}
use Rattle.std.proofs.lemmas.Bool.{cases_lt}
use Rattle.std.proofs.lemmas.Bool.Decides.{nat_tests}
use Rattle.log_format.specs.Fitting.{wrapped, signed, fitted, IsWidth}
use Rattle.kernel_syntax.proofs.Wrapping.{remainder-is, signed-small}

signed-negative : (r n : ℕ) → r / 2 ≤ n → signed r n ≡ negsuc (r - suc n)
signed-negative r n h = grind (arith, nat_tests)

-- wrapping a number that stands for n gives n back
wrapped-signed-small : (r n : ℕ) → n < r → n < r / 2 → wrapped r (signed r n) ≡ signed r n
unfolding wrapped
wrapped-signed-small r n lt h = ap (wrapped r) (signed-small r n h) ∙ ap (signed r) (mod-eq_of_lt lt)

remainder-back : (r n : ℕ) → n < r → r - 1 - (r - suc n) % r ≡ n
remainder-back r n lt = let below : r - suc n < r = omega arith in omega (arith, mod-eq_of_lt below)

wrapped-signed-large : (r n : ℕ) → n < r → r / 2 ≤ n → wrapped r (signed r n) ≡ signed r n
unfolding wrapped
wrapped-signed-large r n lt h = ap (wrapped r) (signed-negative r n h) ∙ ap (signed r) (remainder-back r n lt)

wrapped-signed : (r n : ℕ) → n < r → wrapped r (signed r n) ≡ signed r n
wrapped-signed r n lt = ⊎_elim (wrapped-signed-small r n lt) (wrapped-signed-large r n lt) (cases_lt n (r / 2))

pub wrapped-wrapped : (r : ℕ) (z : ℤ) → 0 < r → wrapped r (wrapped r z) ≡ wrapped r z
unfolding wrapped
wrapped-wrapped r z some =
    let rem = remainder-is z r some in
    let same = ap (λ w. signed r (unsigned_abs w)) rem.1 in
    ap (wrapped r) same ∙ wrapped-signed r rem.0 rem.2 ∙ sym same

-- a number of at most 64 bits fits 64 bits
signed-fits : (r n : ℕ) → n < r → r ≤ 2 ^ 64 → FitsSigned w64 (signed r n)
signed-fits r n lt small = ⊎_elim below above (cases_lt n (r / 2))
  where
    below : n < r / 2 → FitsSigned w64 (signed r n)
    below h = subst (FitsSigned w64) (sym (signed-small r n h)) (record { sfits = omega arith })

    above : r / 2 ≤ n → FitsSigned w64 (signed r n)
    above h = subst (FitsSigned w64) (sym (signed-negative r n h)) (record { sfits = omega arith })

pub wrapped_fits_word : (r : ℕ) (z : ℤ) → 0 < r → r ≤ 2 ^ 64 → FitsSigned w64 (wrapped r z)
unfolding wrapped
wrapped_fits_word r z some small =
    let rem = remainder-is z r some in
    subst (λ w. FitsSigned w64 (signed r (unsigned_abs w))) (sym rem.1) (signed-fits r rem.0 rem.2 small)

-- a width's range
range_bounds : (width : ℕ) → IsWidth width → (0 < 2 ^ (8 * width)) × (2 ^ (8 * width) ≤ 2 ^ 64)
range_bounds width (inl is) = subst (λ w. (0 < 2 ^ (8 * w)) × (2 ^ (8 * w) ≤ 2 ^ 64)) (sym is) (omega arith, omega arith)
range_bounds width (inr (inl is)) = subst (λ w. (0 < 2 ^ (8 * w)) × (2 ^ (8 * w) ≤ 2 ^ 64)) (sym is) (omega arith, omega arith)
range_bounds width (inr (inr (inl is))) = subst (λ w. (0 < 2 ^ (8 * w)) × (2 ^ (8 * w) ≤ 2 ^ 64)) (sym is) (omega arith, omega arith)
range_bounds width (inr (inr (inr is))) = subst (λ w. (0 < 2 ^ (8 * w)) × (2 ^ (8 * w) ≤ 2 ^ 64)) (sym is) (omega arith, omega arith)

pub fitted-fitted : (z : ℤ) (width : ℕ) → IsWidth width → fitted (fitted z width) width ≡ fitted z width
fitted-fitted z width is = wrapped-wrapped (2 ^ (8 * width)) z (range_bounds width is).0

pub fitted_fits : (z : ℤ) (width : ℕ) → IsWidth width → FitsSigned w64 (fitted z width)
fitted_fits z width is = let b = range_bounds width is in wrapped_fits_word (2 ^ (8 * width)) z b.0 b.1
