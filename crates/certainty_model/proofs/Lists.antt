-- Elements of lists that have a prefix in common.
use Rattle.std.proofs.Common.{◌≡◌, refl, sym, ap, ◌∙◌, ℕ, zero, suc, ◌<◌, List, [], ◌∷◌, ◌++◌, take, arith}
use Rattle.std.specs.Prelude.{slice_get}

pub get_taken : {X : Type 0} (xs : List X) (i n : ℕ) → i < n → slice_get (take n xs) i ≡ slice_get xs i
get_taken xs i zero less = absurd (omega arith)
get_taken [] i (suc n) less = refl
get_taken (x ∷ xs) zero (suc n) less = refl
get_taken (x ∷ xs) (suc i) (suc n) less = get_taken xs i n (omega arith)

-- lists that agree so far have the same elements so far
pub same_taken : {X : Type 0} (xs ys : List X) (i n : ℕ) → i < n → take n xs ≡ take n ys → slice_get xs i ≡ slice_get ys i
same_taken xs ys i n less same = sym (get_taken xs i n less) ∙ (ap (λ l. slice_get l i) same ∙ get_taken ys i n less)
