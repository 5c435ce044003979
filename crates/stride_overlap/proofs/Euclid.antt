-- One step of Euclid's algorithm with a window: where no multiple of the stride is in it, places that meet come from places of the
-- other stride's remainder and the stride, one for one.
use Rattle.std.proofs.Common.{◌≡◌, ℕ, ◌+◌, ◌-◌, ◌*◌, ◌<◌, ◌≤◌, inl, inr, ap, arith}
use Rattle.std.proofs.lemmas.Bool.{cases_lt}
use Rattle.std.proofs.Math.Nat.{mul-le-mul_left, mul-le-mul_right}
use Rattle.stride_overlap.specs.Meeting.{Meets}

-- the other stride is so many strides and a rest, and the first multiple of the stride from low on is above high
pub record IsStep (stride other low high times rest ahead : ℕ) : Type 0 where
  pub split : other ≡ times * stride + rest
  pub reached : low ≤ ahead * stride
  pub first : ahead * stride < low + stride
  pub over : high < ahead * stride

-- the places of the rest give places that meet
pub Meets-back : (a m l h c r f i j : ℕ) → IsStep a m l h c r f → Meets r a (f * a - h) (f * a - l) i j → Meets a m l h (j + c * i + f) i
Meets-back a m l h c r f i j step meets = record {
  above = omega (arith, ap (λ n. i * n) step.split);
  below = omega (arith, ap (λ n. i * n) step.split);
}

-- a factor is less where the product is
pub factor-lt : (a b n : ℕ) → a * n < b * n → a < b
factor-lt a b n less = elim (cases_lt a b) [ inl is ↦ is | inr not ↦ absurd (omega (arith, mul-le-mul_right n not)) ]

-- the first place is ahead of the second's by at least so many
far_enough : (a m l h c r f i j : ℕ) → IsStep a m l h c r f → Meets a m l h i j → c * j + f ≤ i
far_enough a m l h c r f i j step meets =
    let less : (c * j + f) * a < (i + 1) * a = omega (arith, ap (λ n. j * n) step.split) in
    let below : c * j + f < i + 1 = factor-lt (c * j + f) (i + 1) a less in
    omega arith

-- places that meet give places of the rest
pub Meets-forth : (a m l h c r f i j : ℕ) → IsStep a m l h c r f → Meets a m l h i j → (k : ℕ) × (i ≡ k + c * j + f) × Meets r a (f * a - h) (f * a - l) j k
Meets-forth a m l h c r f i j step meets =
    let far : c * j + f ≤ i = far_enough a m l h c r f i j step meets in
    let split : i ≡ (i - (c * j + f)) + c * j + f = omega arith in (
      i - (c * j + f),
      split,
      record {
        above = omega (arith, ap (λ n. n * a) split, ap (λ n. j * n) step.split);
        below = omega (arith, ap (λ n. n * a) split, ap (λ n. j * n) step.split);
      },
    )

-- the first place is below the other stride where the second is below the stride
pub place_below : (a m l h i j : ℕ) → h < m → j < a → Meets a m l h i j → i < m
place_below a m l h i j small second meets =
    let one_more : j + 1 ≤ a = omega arith in
    let row : (j + 1) * m ≤ a * m = mul-le-mul_right m one_more in
    factor-lt i m a (omega arith)

-- the second place of the rest isn't above the first
second_is_less : (a r l h i j : ℕ) → r < a → Meets r a l h i j → j ≤ i
second_is_less a r l h i j small meets =
    elim (cases_lt i j) [
      | inl more ↦ absurd (omega (arith, mul-le-mul_left i small, mul-le-mul_right a more))
      | inr not ↦ not
    ]

-- a place that comes from places of the rest is below the sum of the strides and the window's low end
pub sum_below : (a m l h c r f i j : ℕ) → IsStep a m l h c r f → r < a → i < a → Meets r a (f * a - h) (f * a - l) i j → j + c * i + f ≤ a + m + l
sum_below a m l h c r f i j step rest within meets =
    let second : j ≤ i = second_is_less a r (f * a - h) (f * a - l) i j rest meets in
    let at_most : i ≤ a = omega arith in
    let times : c * i ≤ c * a = mul-le-mul_left c at_most in
    let one : 1 ≤ a = omega arith in
    let less : f * a < (l + 1) * a = omega (arith, mul-le-mul_left l one) in
    let ahead : f < l + 1 = factor-lt f (l + 1) a less in
    omega (arith, step.split)
