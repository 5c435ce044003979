-- The order of references is that of the runs that they point to.
use Rattle.std.proofs.Common.{◌≡◌, ℕ, ◌+◌, ◌<◌, Bool, true, false, cond, List, [], ◌∷◌, length, get_or, map, refl, sym, ◌∙◌, ap, subst, arith}
use Rattle.std.specs.List.{filter}
use Rattle.std.specs.Ordering.{nat_cmp, is_lt}
use Rattle.std.specs.List.Sorted.{IsPermutation, IsSortedByKey, IsStableByKey}
use Rattle.std.proofs.Math.ListN.{get_or-map}
use Rattle.std.proofs.lemmas.List.{length-map}
use Rattle.std.proofs.lemmas.List.Sorted.{IsPermutation-map}
use Rattle.stride_summary.specs.declared.run.Run.{Run}
use Rattle.interval_tree.specs.Order.{IsInOrder, first_byte}
use Rattle.interval_tree.specs.Reaches.{AddsReaches, AreReaches}
use Rattle.interval_tree.proofs.Halves.{shown}
use denote.Ref.{Bor}

abbrev pub pointed_byte : Bor Run → ℕ
pointed_byte r = r.now.base

filter-map : {X Y : Type 0} (f : X → Y) (p : Y → Bool) (xs : List X) → filter p (map f xs) ≡ map f (filter (λ x. p (f x)) xs)
filter-map f p [] = refl
filter-map f p (x ∷ xs) = elim (p (f x)) as (λ b. cond b (f x ∷ filter p (map f xs)) (filter p (map f xs)) ≡ map f (cond b (x ∷ filter (λ y. p (f y)) xs) (filter (λ y. p (f y)) xs))) [
  | true ↦ ap (λ ys. f x ∷ ys) (filter-map f p xs)
  | false ↦ filter-map f p xs
]

pub ascends-shown : (xs : List (Bor Run)) → IsSortedByKey pointed_byte nat_cmp xs → IsSortedByKey first_byte nat_cmp (shown xs)
ascends-shown xs ascends k d from within =
    let at : Bor Run = record { ref_ptr = (0, 0); now = d } in
    let shorter : k + 1 < length xs = omega (arith, length-map xs (λ r. r.now)) in
    ap (λ (r : Run). is_lt (nat_cmp r.base (get_or (shown xs) k d).base)) (get_or-map (λ r. r.now) xs (k + 1) at)
    ∙ ap (λ (r : Run). is_lt (nat_cmp (get_or xs (k + 1) at).now.base r.base)) (get_or-map (λ r. r.now) xs k at)
    ∙ ascends k at from shorter

ties-shown : (xs ys : List (Bor Run)) → IsStableByKey pointed_byte nat_cmp xs ys → IsStableByKey first_byte nat_cmp (shown xs) (shown ys)
ties-shown xs ys stable run =
    let at : Bor Run = record { ref_ptr = (0, 0); now = run } in
    filter-map (λ r. r.now) _ ys ∙ ap shown (stable at) ∙ sym (filter-map (λ r. r.now) _ xs)

pub IsInOrder-shown : (runs : List Run) (xs ys : List (Bor Run)) → shown xs ≡ runs → IsPermutation xs ys → IsSortedByKey pointed_byte nat_cmp ys → IsStableByKey pointed_byte nat_cmp xs ys → IsInOrder runs (shown ys)
IsInOrder-shown runs xs ys is same ascends stable = record {
  ascends = ascends-shown ys ascends;
  same = subst (λ (rs : List Run). IsPermutation rs (shown ys)) is (IsPermutation-map (λ r. r.now) xs ys same);
  ties = subst (λ (rs : List Run). IsStableByKey first_byte nat_cmp rs (shown ys)) is (ties-shown xs ys stable);
}

pub AreReaches-from_nothing : (old new : List ℕ) (xs ys : List (Bor Run)) → old ≡ [] → xs ≡ ys → AddsReaches old new (shown xs) → AreReaches new (shown ys)
AreReaches-from_nothing old new xs ys empty same adds = subst (λ (rs : List (Bor Run)). AreReaches new (shown rs)) same (subst (λ (ns : List ℕ). AddsReaches ns new (shown xs)) empty adds)
