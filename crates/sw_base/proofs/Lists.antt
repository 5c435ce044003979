-- Elements of lists.
use Rattle.std.proofs.Common.{◌≡◌, ◌⊎◌, inl, inr, refl, ap, ◌∙◌, ℕ, zero, suc, ◌+◌, ◌<◌, ◌≤◌, Bool, true, List, [], ◌∷◌, ◌++◌, length, take, Some, arith}
use Rattle.std.specs.Prelude.{All, Contains, filter, slice_get}
use Rattle.std.specs.List.{range_with_len}
use Rattle.std.proofs.lemmas.List.Elements.{All-nil, All-cons, All-head, All-tail, All-contains, All-contains_itself, All-filter, filter_passes}

-- an element of the first of two lists
pub get_left : {X : Type 0} (xs ys : List X) (n : ℕ) → n < length xs → slice_get (xs ++ ys) n ≡ slice_get xs n
get_left [] ys n less = absurd (omega arith)
get_left (x ∷ xs) ys zero less = refl
get_left (x ∷ xs) ys (suc n) less = get_left xs ys n (omega arith)

pub get_more : {X : Type 0} (xs ys : List X) (n : ℕ) (x : X) → slice_get xs n ≡ Some x → slice_get (xs ++ ys) n ≡ Some x
get_more [] ys n x found = cc
get_more (y ∷ xs) ys zero x found = found
get_more (y ∷ xs) ys (suc n) x found = get_more xs ys n x found

-- one of the second
pub get_right : {X : Type 0} (xs ys : List X) (n : ℕ) → slice_get (xs ++ ys) (length xs + n) ≡ slice_get ys n
get_right [] ys n = ap (λ (k : ℕ). slice_get ys k) (let e : 0 + n ≡ n = omega arith in e)
get_right (y ∷ xs) ys n = ap (λ (k : ℕ). slice_get (y ∷ xs ++ ys) k) (let e : suc (length xs) + n ≡ suc (length xs + n) = omega arith in e) ∙ get_right xs ys n

-- the first of the second
pub get_seam : {X : Type 0} (xs : List X) (x : X) (ys : List X) → slice_get (xs ++ x ∷ ys) (length xs) ≡ Some x
get_seam [] x ys = refl
get_seam (y ∷ xs) x ys = get_seam xs x ys

-- a list that is cut, and one more
pub get_kept : {X : Type 0} (xs : List X) (x y : X) (n k : ℕ) → k < n → slice_get xs k ≡ Some y → slice_get (take n xs ++ x ∷ []) k ≡ Some y
get_kept [] x y n k less found = cc
get_kept (z ∷ xs) x y zero k less found = absurd (omega arith)
get_kept (z ∷ xs) x y (suc n) zero less found = found
get_kept (z ∷ xs) x y (suc n) (suc k) less found = get_kept xs x y n k (omega arith) found

pub get_pushed : {X : Type 0} (xs : List X) (x : X) (n : ℕ) → n ≤ length xs → slice_get (take n xs ++ x ∷ []) n ≡ Some x
get_pushed xs x zero le = refl
get_pushed [] x (suc n) le = absurd (omega arith)
get_pushed (z ∷ xs) x (suc n) le = get_pushed xs x n (omega arith)

-- what a list with one more in front has
pub contains_later : {X : Type 0} (x : X) (xs : List X) (y : X) → Contains xs y → Contains (x ∷ xs) y
contains_later x xs y (k, within, is) = (suc k, omega arith, is)

pub contains_either : {X : Type 0} (x : X) (xs : List X) (y : X) → Contains (x ∷ xs) y → (x ≡ y) ⊎ Contains xs y
contains_either x xs y (zero, within, is) = inl is
contains_either x xs y (suc k, within, is) = inr (k, omega arith, is)

-- what a filter keeps
pub contains_filtered : {X : Type 0} (p : X → Bool) (xs : List X) (x : X) → Contains (filter p xs) x → Contains xs x × (p x ≡ true)
contains_filtered p xs x kept = (
  All-contains (Contains xs) (filter p xs) x (All-filter p (Contains xs) xs (All-contains_itself xs)) kept,
  All-contains (λ y. p y ≡ true) (filter p xs) x (filter_passes p xs) kept,
)

-- what holds of each element of two lists
pub all_parts : {X : Type 0} (P : X → Type 0) (xs ys : List X) → All P (xs ++ ys) → All P xs × All P ys
all_parts P [] ys all = (All-nil P, all)
all_parts P (x ∷ xs) ys all =
    let rest = all_parts P xs ys (All-tail P x (xs ++ ys) all) in (All-cons P x xs (All-head P x (xs ++ ys) all) rest.0, rest.1)

-- so many numbers, and then more
pub range_parts : (a m n : ℕ) → range_with_len a (m + n) ≡ range_with_len a m ++ range_with_len (a + m) n
range_parts a zero n = ap (range_with_len a) (omega arith) ∙ ap (λ b. range_with_len b n) (omega arith)
range_parts a (suc m) n =
    let more : suc m + n ≡ suc (m + n) = omega arith in
    let place : a + 1 + m ≡ a + suc m = omega arith in
    ap (range_with_len a) more ∙ ap (λ l. a ∷ l) (range_parts (a + 1) m n ∙ ap (λ b. range_with_len (a + 1) m ++ range_with_len b n) place)
