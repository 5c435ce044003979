-- How pieces that fill a block are counted.
use Rattle.std.proofs.Common.{◌≡◌, ◌⊎◌, inl, inr, ap, sym, ◌∙◌, ℕ, zero, suc, ◌+◌, ◌*◌, ◌/◌, ◌%◌, ◌<◌, ◌≤◌, List, [], ◌∷◌, ◌++◌, replicate, arith}
use Rattle.std.specs.List.{sum}
use Rattle.std.proofs.Math.Nat.{suc-mul, mul_left_comm, eq-or-lt_of_le}
use Rattle.std.proofs.lemmas.Nat.{div-mul-add, mod-mul-add}
use Rattle.std.proofs.lemmas.List.{append-nil, replicate_more}
use Rattle.std.proofs.lemmas.List.Folds.{sum_by-replicate}
use Rattle.std.proofs.lemmas.List.Sums.{sum_by-cons}
use Rattle.sw_base.specs.Pieces.{records_in, rest_piece, cut, kept}

pub one_more : (n m : ℕ) → (n + 1) * m ≡ n * m + m
one_more n m = let more : n + 1 ≡ suc n = omega arith in ap (λ k. k * m) more ∙ suc-mul n m

-- one block more, or none
pub one_away : (full away m : ℕ) → away ≤ 1 → (full + away) * m ≤ full * m + m
one_away full zero m one = let none : full + 0 ≡ full = omega arith in omega (arith, ap (λ k. k * m) none)
one_away full (suc zero) m one = omega (arith, one_more full m)
one_away full (suc (suc k)) m one = absurd (omega (arith, one))

-- full pieces, and a part of one
pub cut_is : (n full rest size : ℕ) → n ≡ full * records_in size + rest → rest < records_in size
    → 8 ∷ replicate full (24 * records_in size) ++ rest_piece rest ≡ cut n size
cut_is n full rest size is less =
    let c = records_in size in
    let quotient : full ≡ n / c = sym (ap (λ k. k / c) is ∙ div-mul-add full c rest less) in
    let left : rest ≡ n % c = sym (ap (λ k. k % c) is ∙ mod-mul-add full c rest less) in
    (λ i. 8 ∷ replicate (quotient i) (24 * c) ++ rest_piece (left i))

-- what waited is the last piece
pub cut_last : (n full rest size : ℕ) → n ≡ full * records_in size + rest → 0 < rest → rest ≤ records_in size
    → 8 ∷ replicate full (24 * records_in size) ++ 24 * rest ∷ [] ≡ cut n size
cut_last n full zero size is some most = absurd (omega arith)
cut_last n full (suc k) size is some most = by_room (eq-or-lt_of_le most)
  where
    c : ℕ
    c = records_in size

    by_room : (suc k ≡ c) ⊎ (suc k < c) → 8 ∷ replicate full (24 * c) ++ 24 * suc k ∷ [] ≡ cut n size
    by_room (inr less) = cut_is n full (suc k) size is less
    by_room (inl all) =
        ap (λ j. 8 ∷ replicate full (24 * c) ++ 24 * j ∷ []) all
        ∙ ap (λ (l : List ℕ). 8 ∷ l) (replicate_more full (24 * c))
        ∙ sym (append-nil (8 ∷ replicate (full + 1) (24 * c)))
        ∙ cut_is n (full + 1) 0 size (is ∙ omega (arith, all, one_more full c)) (omega (arith, all))

-- the records in full pieces
pub kept_full : (full c : ℕ) → kept (8 ∷ replicate full (24 * c)) ≡ full * c
kept_full full c =
    let all : sum (8 ∷ replicate full (24 * c)) ≡ 8 + full * (24 * c) = sum_by-cons (λ x. x) 8 (replicate full (24 * c)) ∙ ap (λ k. 8 + k) (sum_by-replicate (λ x. x) full (24 * c)) in
    omega (arith, all, mul_left_comm full 24 c)
