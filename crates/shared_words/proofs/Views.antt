-- Lists of views: the last of a longer list, and sums over a list of which one view changes.
use Rattle.std.proofs.Common.{◌≡◌, ◌⊎◌, refl, sym, ap, ◌∙◌, ℕ, zero, suc, ◌+◌, ◌≤◌, List, [], ◌∷◌, ◌++◌, length, set, arith, inl, inr}
use Rattle.std.specs.Prelude.{sum_by}
use Rattle.std.proofs.lemmas.List.Sums.{sum_by-cons, sum_by-append}
use mathlib.Core.Option.{some, some-injective, some-ne-none}
use lib.ListN.{get_elem?}

module _ {A : Type 0} where
  -- a view of a longer list is one of the shorter, or the last
  pub at_end : (views : List A) (w : A) (j : ℕ) (u : A) → get_elem? (views ++ w ∷ []) j ≡ some u → (get_elem? views j ≡ some u) ⊎ ((j ≡ length views) × (u ≡ w))
  at_end [] w zero u there = inr (refl, sym (some-injective w u there))
  at_end [] w (suc j) u there = absurd (some-ne-none u (sym there))
  at_end (x ∷ xs) w zero u there = inl there
  at_end (x ∷ xs) w (suc j) u there = elim (at_end xs w j u there) [
    | inl old ↦ inl old
    | inr last ↦ inr (let is = last.0 in omega arith, last.1)
  ]

  pub sum_set : (f : A → ℕ) (views : List A) (id : ℕ) (v w : A) → get_elem? views id ≡ some v → sum_by f (set views id w) + f v ≡ sum_by f views + f w
  sum_set f [] id v w at = absurd (some-ne-none v (sym at))
  sum_set f (x ∷ xs) zero v w at = let is : f x ≡ f v = ap f (some-injective x v at) in omega (arith, sum_by-cons f w xs, sum_by-cons f x xs)
  sum_set f (x ∷ xs) (suc id) v w at = let rest = sum_set f xs id v w at in omega (arith, sum_by-cons f x (set xs id w), sum_by-cons f x xs)

  pub sum_part : (f : A → ℕ) (views : List A) (id : ℕ) (v : A) → get_elem? views id ≡ some v → f v ≤ sum_by f views
  sum_part f [] id v at = absurd (some-ne-none v (sym at))
  sum_part f (x ∷ xs) zero v at = let is : f x ≡ f v = ap f (some-injective x v at) in omega (arith, sum_by-cons f x xs)
  sum_part f (x ∷ xs) (suc id) v at = let rest = sum_part f xs id v at in omega (arith, sum_by-cons f x xs)

  pub sum_parts : (f : A → ℕ) (views : List A) (id j : ℕ) (v u : A) → get_elem? views id ≡ some v → get_elem? views j ≡ some u → (j ≡ id → ⊥) → f v + f u ≤ sum_by f views
  sum_parts f [] id j v u at there apart = absurd (some-ne-none v (sym at))
  sum_parts f (x ∷ xs) zero zero v u at there apart = absurd (apart refl)
  sum_parts f (x ∷ xs) zero (suc j) v u at there apart =
      let is : f x ≡ f v = ap f (some-injective x v at) in
      let rest = sum_part f xs j u there in omega (arith, sum_by-cons f x xs)
  sum_parts f (x ∷ xs) (suc id) zero v u at there apart =
      let is : f x ≡ f u = ap f (some-injective x u there) in
      let rest = sum_part f xs id v at in omega (arith, sum_by-cons f x xs)
  sum_parts f (x ∷ xs) (suc id) (suc j) v u at there apart =
      let rest = sum_parts f xs id j v u at there (λ same. apart (ap suc same)) in omega (arith, sum_by-cons f x xs)

  sum_nothing : (f : A → ℕ) (views : List A) → ((j : ℕ) (u : A) → get_elem? views j ≡ some u → f u ≡ 0) → sum_by f views ≡ 0
  sum_nothing f [] none_has = refl
  sum_nothing f (x ∷ xs) none_has =
      let here = none_has 0 x refl in
      let rest = sum_nothing f xs (λ j u there. none_has (suc j) u there) in omega (arith, sum_by-cons f x xs)

  -- where one view alone counts, the sum is its part
  pub sum_alone : (f : A → ℕ) (views : List A) (id : ℕ) (v : A) → get_elem? views id ≡ some v
      → ((j : ℕ) (u : A) → get_elem? views j ≡ some u → (j ≡ id → ⊥) → f u ≡ 0) → sum_by f views ≡ f v
  sum_alone f [] id v at others = absurd (some-ne-none v (sym at))
  sum_alone f (x ∷ xs) zero v at others =
      let is : f x ≡ f v = ap f (some-injective x v at) in
      let rest = sum_nothing f xs (λ j u there. others (suc j) u there (λ same. omega arith)) in omega (arith, sum_by-cons f x xs)
  sum_alone f (x ∷ xs) (suc id) v at others =
      let here = others 0 x refl (λ same. omega arith) in
      let rest = sum_alone f xs id v at (λ j u there apart. others (suc j) u there (λ same. apart (omega arith))) in omega (arith, sum_by-cons f x xs)

  pub sum_below : (f g : A → ℕ) → ((x : A) → f x ≤ g x) → (views : List A) → sum_by f views ≤ sum_by g views
  sum_below f g less [] = omega arith
  sum_below f g less (x ∷ xs) = let here = less x in let rest = sum_below f g less xs in omega (arith, sum_by-cons f x xs, sum_by-cons g x xs)

  -- one view more
  pub sum_more : (f : A → ℕ) (views : List A) (w : A) → sum_by f (views ++ w ∷ []) ≡ sum_by f views + f w
  sum_more f views w = sum_by-append f views (w ∷ []) ∙ ap (λ (n : ℕ). sum_by f views + n) (sum_by-cons f w [] ∙ last)
    where
      last : f w + 0 ≡ f w
      last = omega arith
