-- Numbers that are compared.
use Rattle.std.proofs.Common.{◌≡◌, ℕ, suc, true, false, arith}
use Rattle.std.specs.Prelude.{◌==◌}

pub same_number : (m n : ℕ) → (m == n) ≡ true → m ≡ n
same_number m n e = grind arith

pub other_number : (m n : ℕ) → (m == n) ≡ false → m ≡ n → ⊥
other_number m n e same = grind arith

pub number_itself : (n : ℕ) → (n == n) ≡ true
number_itself n = grind arith

pub not_next : (n : ℕ) → (n == suc n) ≡ false
not_next n = grind arith

pub number_is : (m n : ℕ) → m ≡ n → (m == n) ≡ true
number_is m n e = grind arith

pub number_not : (m n : ℕ) → (m ≡ n → ⊥) → (m == n) ≡ false
number_not m n e = grind arith
