-- Facts of which it can be told whether they hold.
use Rattle.std.proofs.Common.{◌≡◌, ◌⊎◌, inl, inr, ℕ, ◌<◌, ◌≤◌, arith}
use Rattle.std.proofs.lemmas.Bool.{cases_order, cases_lt}

-- whether a fact holds can be told
abbrev pub Decided : Type 0 → Type 0
Decided A = A ⊎ (A → ⊥)

pub stable : {A : Type 0} → Decided A → ((A → ⊥) → ⊥) → A
stable (inl holds) not_not = holds
stable (inr fails) not_not = absurd (not_not fails)

pub through : {A B : Type 0} → (A → B) → (B → A) → Decided A → Decided B
through to from (inl holds) = inl (to holds)
through to from (inr fails) = inr (λ holds. fails (from holds))

pub both : {A B : Type 0} → Decided A → Decided B → Decided (A × B)
both (inl a) (inl b) = inl (a, b)
both (inl a) (inr b) = inr (λ p. b p.1)
both (inr a) b = inr (λ p. a p.0)

pub either : {A B : Type 0} → Decided A → Decided B → Decided (A ⊎ B)
either (inl a) b = inl (inl a)
either (inr a) (inl b) = inl (inr b)
either {A} {B} (inr a) (inr b) = inr none where
  none : A ⊎ B → ⊥
  none (inl x) = a x
  none (inr x) = b x

pub equal : (m n : ℕ) → Decided (m ≡ n)
equal m n = by_order (cases_order m n) where
  by_order : (m ≡ n) ⊎ ((m < n) ⊎ (n < m)) → Decided (m ≡ n)
  by_order (inl same) = inl same
  by_order (inr (inl less)) = inr (λ same. omega arith)
  by_order (inr (inr more)) = inr (λ same. omega arith)

pub at_most : (m n : ℕ) → Decided (m ≤ n)
at_most m n = by_order (cases_lt n m) where
  by_order : (n < m) ⊎ (m ≤ n) → Decided (m ≤ n)
  by_order (inl less) = inr (λ most. omega arith)
  by_order (inr most) = inl most
