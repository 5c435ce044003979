-- Elements of a list that are set or pushed one after another.
use Rattle.std.proofs.Common.{◌≡◌, ◌≢◌, refl, sym, subst, ℕ, ◌+◌, ◌<◌, ◌≤◌, List, [], ◌∷◌, ◌++◌, length, set, get_or, get_or-set_other, get_or-set_same, below_more, arith}
use Rattle.std.proofs.lemmas.List.{get_or_append_left, get_or_push, length_push}

module _ {T : Type 0} (xs : List T) (n : ℕ) (x : T) (within : n < length xs) (P : ℕ → T → T → Type 0) where
  -- those below it and itself
  pub set_below : ((i : ℕ) (d : T) → i < n → P i d (get_or xs i d)) → ((d : T) → P n d x) → (i : ℕ) (d : T) → i < n + 1 → P i d (get_or (set xs n x) i d)
  set_below before this i d less = below_more (λ (k : ℕ). (e : T) → P k e (get_or (set xs n x) k e)) n
      (λ k h e. let other : k ≢ n = omega arith in rw get_or-set_other (before k e h))
      (λ e. rw get_or-set_same (this e)) i less d

  -- those above it
  pub set_above : ((i : ℕ) (d : T) → n ≤ i → P i d (get_or xs i d)) → (i : ℕ) (d : T) → n + 1 ≤ i → P i d (get_or (set xs n x) i d)
  set_above before i d more = let other : i ≢ n = omega arith in rw get_or-set_other (before i d (omega arith))

-- what holds of the elements of two lists at each index, once both got one more
pub push_both : {A B : Type 0} (P : A → B → Type 0) (xs : List A) (ys : List B) (x : A) (y : B) → length ys ≡ length xs → ((k : ℕ) (d : A) (e : B) → k < length xs → P (get_or xs k d) (get_or ys k e)) → P x y
    → (k : ℕ) (d : A) (e : B) → k < length (xs ++ x ∷ []) → P (get_or (xs ++ x ∷ []) k d) (get_or (ys ++ y ∷ []) k e)
push_both {A} {B} P xs ys x y same before this k d e less = below_more (λ (i : ℕ). P (get_or (xs ++ x ∷ []) i d) (get_or (ys ++ y ∷ []) i e)) (length xs)
    (λ i h. subst (λ (u : A). P u (get_or (ys ++ y ∷ []) i e)) (sym (get_or_append_left xs (x ∷ []) d i h)) (subst (λ (v : B). P (get_or xs i d) v) (sym (get_or_append_left ys (y ∷ []) e i (omega (arith, h, same)))) (before i d e h)))
    (subst (λ (u : A). P u (get_or (ys ++ y ∷ []) (length xs) e)) (sym (get_or_push xs x d (length xs) refl)) (subst (λ (v : B). P x v) (sym (get_or_push ys y e (length xs) same)) this)) k (omega (arith, less, length_push xs x))
