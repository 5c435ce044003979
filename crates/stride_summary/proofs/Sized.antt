-- The size of an access.
use Rattle.log_format.specs.Fitting.{IsWidth}
use Rattle.std.proofs.Common.{ℕ, ◌≤◌, inl, inr, arith}

pub has_bytes : (n : ℕ) → IsWidth n → 1 ≤ n
has_bytes n size = elim size [ inl e ↦ omega arith | inr s ↦ elim s [ inl e ↦ omega arith | inr t ↦ elim t [ inl e ↦ omega arith | inr e ↦ omega arith ] ] ]
