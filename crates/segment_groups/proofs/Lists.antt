-- Lists of all numbers with a property, one part after another.
use Rattle.std.proofs.Common.{◌≡◌, ◌⊎◌, inl, inr, ℕ, zero, suc, ◌+◌, ◌-◌, ◌<◌, List, [], ◌∷◌, ◌++◌, Contains, length, length-append, get_or, ap, arith}
use Rattle.std.proofs.Math.ListN.{get_or-append}
use Rattle.std.proofs.Math.Seq.{get_or-append_right}
use Rattle.std.proofs.lemmas.List.Elements.{Contains-append_cases, Contains-append_left, Contains-append_right, Contains-get_or}
use Rattle.segment_groups.specs.Partners.{AreAll}

pub three : (m n : ℕ) → (m < n) ⊎ ((m ≡ n) ⊎ (n < m))
three m n = grind arith

pub AreAll-none : (P : ℕ → Type 0) → ((n : ℕ) → P n → ⊥) → AreAll P []
AreAll-none P none = record {
  ascending = λ k within. absurd (omega arith);
  each = λ n. ((λ h. absurd (let within = h.1 in omega arith)), (λ p. absurd (none n p)));
}

pub AreAll-one : (only : ℕ) → AreAll (λ n. only ≡ n) (only ∷ [])
AreAll-one only = record {
  ascending = λ k within. absurd (omega arith);
  each = λ n. (first n, λ same. (0, omega arith, same));
}
  where
    first : (n : ℕ) → Contains (only ∷ []) n → only ≡ n
    first n (zero, within, is) = is
    first n (suc k, within, is) = absurd (omega arith)

pub AreAll-same : (P Q : ℕ → Type 0) (xs : List ℕ) → ((n : ℕ) → P n → Q n) → ((n : ℕ) → Q n → P n) → AreAll P xs → AreAll Q xs
AreAll-same P Q xs to from all = record { ascending = all.ascending; each = λ n. ((λ h. to n ((all.each n).0 h)), (λ q. (all.each n).1 (from n q))) }

pub AreAll-append : (P Q : ℕ → Type 0) (xs ys : List ℕ) → ((m n : ℕ) → P m → Q n → m < n) → AreAll P xs → AreAll Q ys → AreAll (λ n. P n ⊎ Q n) (xs ++ ys)
AreAll-append P Q xs ys less left right = record { ascending = λ k within. at k within (three (k + 1) (length xs)); each = λ n. (to n, from n) }
  where
    to : (n : ℕ) → Contains (xs ++ ys) n → P n ⊎ Q n
    to n h = elim (Contains-append_cases xs ys n h) [ inl one ↦ inl ((left.each n).0 one) | inr other ↦ inr ((right.each n).0 other) ]

    from : (n : ℕ) → P n ⊎ Q n → Contains (xs ++ ys) n
    from n (inl p) = Contains-append_left xs ys n ((left.each n).1 p)
    from n (inr q) = Contains-append_right xs ys n ((right.each n).1 q)

    at : (k : ℕ) → k + 1 < length (xs ++ ys) → (k + 1 < length xs) ⊎ ((k + 1 ≡ length xs) ⊎ (length xs < k + 1)) → get_or (xs ++ ys) k 0 < get_or (xs ++ ys) (k + 1) 0
    at k within (inl both) =
        let one = get_or-append xs ys 0 k (omega arith) in
        let other = get_or-append xs ys 0 (k + 1) both in
        let up = left.ascending k both in
        omega (arith, one, other, up)
    at k within (inr (inl seam)) =
        let one = get_or-append xs ys 0 k (omega arith) in
        let other = get_or-append_right xs ys (k + 1) 0 (omega arith) in
        let long = length-append xs ys in
        let p = (left.each (get_or xs k 0)).0 (Contains-get_or xs k 0 (omega arith)) in
        let q = (right.each (get_or ys (k + 1 - length xs) 0)).0 (Contains-get_or ys (k + 1 - length xs) 0 (omega (arith, long, within, seam))) in
        let up = less (get_or xs k 0) (get_or ys (k + 1 - length xs) 0) p q in
        omega (arith, one, other, up)
    at k within (inr (inr past)) =
        let one = get_or-append_right xs ys k 0 (omega arith) in
        let other = get_or-append_right xs ys (k + 1) 0 (omega arith) in
        let long = length-append xs ys in
        let place : k + 1 - length xs ≡ k - length xs + 1 = omega arith in
        let up = right.ascending (k - length xs) (omega (arith, long, within, past)) in
        omega (arith, one, other, ap (λ (j : ℕ). get_or ys j 0) place, up)
