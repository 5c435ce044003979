-- Lists in which no number stands twice, grown and cut at their end.
use Rattle.std.proofs.Common.{◌≡◌, ℕ, suc, ◌<◌, ◌==◌, true, false, not, List, [], ◌∷◌, ◌++◌, length, get_or, refl, ◌≤◌, sym, subst, ap, ◌∙◌, arith, nat_eq, filter, Contains}
use Rattle.std.specs.List.{IsDistinct, AllByRecursion}
use Rattle.std.proofs.lemmas.Bool.{ne_eqb}
use Rattle.std.proofs.lemmas.Grind.{get_or_default_zero}
use Rattle.mutex_set.specs.Held.{AreDisjoint}

-- what holds of each element and of one more holds of each of both
all_more : (P : ℕ → Type 0) (xs : List ℕ) (y : ℕ) → AllByRecursion P xs → P y → AllByRecursion P (xs ++ y ∷ [])
all_more P [] y each last = (last, each)
all_more P (x ∷ xs) y each last = (each.0, all_more P xs y each.1 last)

-- and it holds of the last one
all_last : (P : ℕ → Type 0) (xs : List ℕ) (y : ℕ) → AllByRecursion P (xs ++ y ∷ []) → P y
all_last P [] y each = each.0
all_last P (x ∷ xs) y each = all_last P xs y each.1

-- and of those before
all_prefix : (P : ℕ → Type 0) (xs : List ℕ) (y : ℕ) → AllByRecursion P (xs ++ y ∷ []) → AllByRecursion P xs
all_prefix P [] y each = each.1
all_prefix P (x ∷ xs) y each = (each.0, all_prefix P xs y each.1)

-- no numbers are distinct
pub distinct_none : IsDistinct nat_eq []
unfolding IsDistinct
distinct_none = tt

-- a new number may come after distinct ones
pub distinct_more : (xs : List ℕ) (y : ℕ) → IsDistinct nat_eq xs → (Contains xs y → ⊥) → IsDistinct nat_eq (xs ++ y ∷ [])
unfolding IsDistinct
distinct_more [] y distinct fresh = (distinct, distinct)
distinct_more (x ∷ xs) y distinct fresh = (
  all_more _ xs y distinct.0 (ne_eqb x y (λ same. fresh (0, omega arith, same))),
  distinct_more xs y distinct.1 (λ found. fresh (suc found.0, omega (arith, found.1), found.2)),
)

-- the numbers before the last of distinct ones are distinct
pub distinct_prefix : (xs : List ℕ) (y : ℕ) → IsDistinct nat_eq (xs ++ y ∷ []) → IsDistinct nat_eq xs
unfolding IsDistinct
distinct_prefix [] y distinct = distinct.1
distinct_prefix (x ∷ xs) y distinct = (all_prefix _ xs y distinct.0, distinct_prefix xs y distinct.1)

eqb_self : (n : ℕ) → nat_eq n n ≡ true
eqb_self n = grind arith

-- and they are all that differ from it
pub others_prefix : (xs : List ℕ) (y : ℕ) → IsDistinct nat_eq (xs ++ y ∷ []) → filter (λ other. not (other == y)) (xs ++ y ∷ []) ≡ xs
unfolding IsDistinct
others_prefix [] y distinct = rw (eqb_self y) refl
others_prefix (x ∷ xs) y distinct =
    let differs : nat_eq x y ≡ false = all_last (λ z. nat_eq x z ≡ false) xs y distinct.0 in
    rw differs (ap (λ (zs : List ℕ). x ∷ zs) (others_prefix xs y distinct.1))

-- lists with a number in common aren't disjoint
pub not_disjoint : (xs ys : List ℕ) (i : ℕ) → i < length xs → Contains ys (get_or xs i 0) → AreDisjoint xs ys → ⊥
not_disjoint xs ys i within found disjoint =
    disjoint (get_or xs i 0) (i, within, get_or_default_zero xs i (get_or xs i 0) within) found

-- lists with no number in common are
pub none_in_both : (xs ys : List ℕ) (n : ℕ) → length xs ≤ n → ((k : ℕ) → k < n → Contains ys (get_or xs k 0) → ⊥) → AreDisjoint xs ys
none_in_both xs ys n all none id here there =
    let at : get_or xs here.0 0 ≡ id = sym (get_or_default_zero xs here.0 id here.1) ∙ here.2 in
    none here.0 (omega (arith, here.1)) (subst (λ (m : ℕ). Contains ys m) (sym at) there)
