-- Values cut to an element's width: the low bits decide, so sums may be cut before or after they are made.
use Rattle.std.proofs.Common.{◌≡◌, ◌⊎◌, inl, inr, sym, ap, ◌∙◌, subst, ℕ, suc, ◌+◌, ◌-◌, ◌*◌, ◌/◌, ◌%◌, ◌^◌, ◌<◌, ◌≤◌, Bool, true, false, refl, arith}
use Rattle.std.specs.Prelude.{ℤ, pos, negsuc, nat_lt, if◌then◌else◌}
use Rattle.std.specs.Int.{w64, cast_unsigned, cast_signed}
use Rattle.std.proofs.lemmas.Bool.{cases_lt}
use Rattle.std.proofs.lemmas.Int.{to_z-of_z, to_z_pos}
use Rattle.log_format.specs.Fitting.{signed, wrapped, IsWidth, fitted, fit, CanHave}

-- what holds at how many values each width has
by_width : (P : ℕ → Type 0) (width : ℕ) → IsWidth width → P (2 ^ 8) → P (2 ^ 16) → P (2 ^ 32) → P (2 ^ 64) → P (2 ^ (8 * width))
by_width P width (inl is) one two four eight = subst (λ (w : ℕ). P (2 ^ (8 * w))) (sym is) one
by_width P width (inr (inl is)) one two four eight = subst (λ (w : ℕ). P (2 ^ (8 * w))) (sym is) two
by_width P width (inr (inr (inl is))) one two four eight = subst (λ (w : ℕ). P (2 ^ (8 * w))) (sym is) four
by_width P width (inr (inr (inr is))) one two four eight = subst (λ (w : ℕ). P (2 ^ (8 * w))) (sym is) eight

-- the bits of a value by its low bits
abbrev extended : ℕ → ℕ → ℕ
extended range low = if nat_lt low (range / 2) then low else 2 ^ 64 - suc (range - suc low)

fit_is : (bits width : ℕ) → fit bits width ≡ extended (2 ^ (8 * width)) (bits % 2 ^ (8 * width))
unfolding wrapped
fit_is bits width = at (nat_lt (bits % 2 ^ (8 * width)) (2 ^ (8 * width) / 2)) where
  at : (b : Bool) → cast_unsigned w64 (if b then pos (bits % 2 ^ (8 * width)) else negsuc (2 ^ (8 * width) - suc (bits % 2 ^ (8 * width))))
      ≡ (if b then bits % 2 ^ (8 * width) else 2 ^ 64 - suc (2 ^ (8 * width) - suc (bits % 2 ^ (8 * width))))
  at true = refl
  at false = refl

-- values of the same low bits are fitted alike
fit_same : (width m n : ℕ) → m % 2 ^ (8 * width) ≡ n % 2 ^ (8 * width) → fit m width ≡ fit n width
fit_same width m n same = fit_is m width ∙ ap (extended (2 ^ (8 * width))) same ∙ sym (fit_is n width)

-- a fitted value has the low bits of the value
fit_low : (width n : ℕ) → IsWidth width → fit n width % 2 ^ (8 * width) ≡ n % 2 ^ (8 * width)
fit_low width n is = ap (λ (m : ℕ). m % 2 ^ (8 * width)) (fit_is n width) ∙ at (nat_lt (n % 2 ^ (8 * width)) (2 ^ (8 * width) / 2)) where
  at : (b : Bool) → (if b then n % 2 ^ (8 * width) else 2 ^ 64 - suc (2 ^ (8 * width) - suc (n % 2 ^ (8 * width)))) % 2 ^ (8 * width) ≡ n % 2 ^ (8 * width)
  at true = by_width (λ (r : ℕ). n % r % r ≡ n % r) width is (omega arith) (omega arith) (omega arith) (omega arith)
  at false = by_width (λ (r : ℕ). (2 ^ 64 - suc (r - suc (n % r))) % r ≡ n % r) width is (omega arith) (omega arith) (omega arith) (omega arith)

-- a sum may be cut before it is made, and again after
pub fit_sum : (width x d : ℕ) → IsWidth width → fit (fit x width + d) width ≡ fit (x + d) width
fit_sum width x d is =
    fit_same width (fit x width + d) (x + d)
    (by_width (λ (r : ℕ). fit x width % r ≡ x % r → (fit x width + d) % r ≡ (x + d) % r) width is (λ e. omega arith) (λ e. omega arith) (λ e. omega arith) (λ e. omega arith) (fit_low width x is))

-- and a word of 64 bits has all that decides
pub fit_word : (width n : ℕ) → IsWidth width → fit (n % 2 ^ 64) width ≡ fit n width
fit_word width n is = fit_same width (n % 2 ^ 64) n (by_width (λ (r : ℕ). n % 2 ^ 64 % r ≡ n % r) width is (omega arith) (omega arith) (omega arith) (omega arith))

-- each element can have 0
pub fit_zero : (width : ℕ) → IsWidth width → CanHave width 0
fit_zero width is = fit_is 0 width ∙ by_width (λ (r : ℕ). extended r (0 % r) ≡ 0) width is refl refl refl refl

-- a word's bits and the number that they stand for are wrapped alike
wrapped_word : (width n : ℕ) → n < 2 ^ 64 → IsWidth width → fitted (cast_signed w64 n) width ≡ fitted (pos n) width
unfolding wrapped
wrapped_word width n small is = by_order (cases_lt n (2 ^ 63)) where
  upper : (k : ℕ) → k < 2 ^ 63 → 2 ^ 64 - suc k ≡ n → cast_signed w64 n ≡ negsuc k
  upper k less same = ap (λ (m : ℕ). cast_signed w64 m) (sym same) ∙ to_z-of_z w64 (negsuc k) (record { sfits = less })

  by_order : (n < 2 ^ 63) ⊎ (2 ^ 63 ≤ n) → fitted (cast_signed w64 n) width ≡ fitted (pos n) width
  by_order (inl less) = ap (λ (z : ℤ). fitted z width) (to_z_pos w64 n less)
  by_order (inr le) =
      ap (λ (z : ℤ). fitted z width) (upper (2 ^ 64 - suc n) (omega arith) (omega arith))
      ∙ ap (λ (m : ℕ). signed (2 ^ (8 * width)) m)
      (by_width (λ (r : ℕ). r - 1 - (2 ^ 64 - suc n) % r ≡ n % r) width is (omega arith) (omega arith) (omega arith) (omega arith))

-- the bits of a fitted value are its fitted bits
pub fitted_bits : (width n : ℕ) → n < 2 ^ 64 → IsWidth width → cast_unsigned w64 (fitted (cast_signed w64 n) width) ≡ fit n width
fitted_bits width n small is = ap (λ (z : ℤ). cast_unsigned w64 z) (wrapped_word width n small is)
