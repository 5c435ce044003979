-- That a number is the size of an access has one proof.
use Rattle.log_format.specs.Fitting.{IsWidth}
use Rattle.std.specs.Prelude.{◌⊎◌, ℕ}
use Rattle.std.proofs.Math.Nat.{ℕ_set}
use Rattle.std.proofs.Common.{inl, inr, ap}

apart_prop : {A B : Type 0} → IsProp A → IsProp B → (A → B → ⊥) → IsProp (A ⊎ B)
apart_prop p q apart (inl a) (inl b) = ap inl (p a b)
apart_prop p q apart (inl a) (inr b) = absurd (apart a b)
apart_prop p q apart (inr a) (inl b) = absurd (apart b a)
apart_prop p q apart (inr a) (inr b) = ap inr (q a b)

pub access_size_prop : (n : ℕ) → IsProp (IsWidth n)
access_size_prop n = apart_prop (ℕ_set n 1) (apart_prop (ℕ_set n 2) (apart_prop (ℕ_set n 4) (ℕ_set n 8) (λ a b. cc)) (λ a b. elim b [ inl c ↦ cc | inr c ↦ cc ])) (λ a b. elim b [ inl c ↦ cc | inr c ↦ elim c [ inl d ↦ cc | inr d ↦ cc ] ])
