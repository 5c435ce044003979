-- The words, where one of them is set.
use Rattle.std.proofs.Common.{◌≡◌, refl, sym, ap, ◌∙◌, ℕ, zero, suc, ◌<◌, Bool, true, false, cond, List, [], ◌∷◌, length, get_or, set, get_or-set_same, get_or-set_other, eqb-true, arith}
use Rattle.std.specs.Prelude.{◌==◌, not, Contains}
use Rattle.shared_words.specs.Views.{without}

pub word_else : (ws : List ℕ) (i j x : ℕ) → (i ≡ j → ⊥) → get_or (set ws i x) j 0 ≡ get_or ws j 0
word_else ws i j x apart = get_or-set_other ws i j x 0 (λ same. apart (sym same))

pub word_here : (ws : List ℕ) (i j x : ℕ) → i ≡ j → i < length ws → get_or (set ws i x) j 0 ≡ x
word_here ws i j x same within = ap (λ (k : ℕ). get_or (set ws i x) k 0) (sym same) ∙ get_or-set_same ws i x 0 within

pub here_or_later : (k n : ℕ) (ks : List ℕ) → Contains (k ∷ ks) n → (k ≡ n → ⊥) → Contains ks n
here_or_later k n ks (zero, within, is) apart = absurd (apart is)
here_or_later k n ks (suc i, within, is) apart = (i, omega arith, is)

pub contains_here : (k : ℕ) (ks : List ℕ) → Contains (k ∷ ks) k
contains_here k ks = (0, omega arith, refl)

pub contains_later : (k n : ℕ) (ks : List ℕ) → Contains ks n → Contains (k ∷ ks) n
contains_later k n ks (i, within, is) = (suc i, omega arith, is)

-- what another number leaves
pub contains_without : (n k : ℕ) (ks : List ℕ) → Contains ks k → (k ≡ n → ⊥) → Contains (without n ks) k
contains_without n k [] has apart = has
contains_without n k (x ∷ xs) has apart = at (x == n) refl has (λ inside. contains_without n k xs inside apart)
  where
    at : (b : Bool) → (x == n) ≡ b → Contains (x ∷ xs) k → (Contains xs k → Contains (without n xs) k) → Contains (cond (not b) (x ∷ without n xs) (without n xs)) k
    at true is (zero, within, same) later = absurd (apart (sym same ∙ eqb-true x n is))
    at true is (suc i, within, same) later = later (i, omega arith, same)
    at false is (zero, within, same) later = (0, omega arith, same)
    at false is (suc i, within, same) later = contains_later x k (without n xs) (later (i, omega arith, same))
