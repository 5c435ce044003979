-- How many elements of a list pass a test before a place, and where the one of a number stands.
use Rattle.std.proofs.Common.{◌≡◌, ◌⊎◌, inl, inr, refl, sym, ap, ◌∙◌, subst, ℕ, zero, suc, ◌+◌, ◌<◌, ◌≤◌, Bool, true, false, cond, List, [], ◌∷◌, length, Some, arith}
use Rattle.std.specs.Prelude.{filter, slice_get}
use Rattle.std.proofs.lemmas.Bool.{cases_lt}
use Rattle.std.proofs.lemmas.Option.{same_Some}
use Rattle.step_history.proofs.Labelled.{filter_yes, filter_no}

module _ {X : Type 0} (test : X → Bool) where
  abbrev pub counted : ℕ → List X → ℕ
  counted zero xs = 0
  counted (suc n) [] = 0
  counted (suc n) (x ∷ xs) = cond (test x) 1 0 + counted n xs

  counted_yes : (n : ℕ) (x : X) (xs : List X) → test x ≡ true → counted (suc n) (x ∷ xs) ≡ suc (counted n xs)
  counted_yes n x xs is = rw is (omega arith)

  counted_no : (n : ℕ) (x : X) (xs : List X) → test x ≡ false → counted (suc n) (x ∷ xs) ≡ counted n xs
  counted_no n x xs is = rw is (omega arith)

  pub counted_all : (xs : List X) → counted (length xs) xs ≡ length (filter test xs)
  counted_all [] = refl
  counted_all (x ∷ xs) = by_test (test x) refl (counted_all xs) where
    by_test : (b : Bool) → test x ≡ b → counted (length xs) xs ≡ length (filter test xs) → counted (length (x ∷ xs)) (x ∷ xs) ≡ length (filter test (x ∷ xs))
    by_test true is rest = counted_yes (length xs) x xs is ∙ ap (λ (n : ℕ). suc n) rest ∙ sym (ap length (filter_yes test x xs is))
    by_test false is rest = counted_no (length xs) x xs is ∙ rest ∙ sym (ap length (filter_no test x xs is))

  -- the count grows by one at most
  pub counted_step : (n : ℕ) (xs : List X) → counted (suc n) xs ≤ suc (counted n xs)
  counted_step n [] = omega arith
  counted_step zero (x ∷ xs) = by_test (test x) refl where
    by_test : (b : Bool) → test x ≡ b → counted 1 (x ∷ xs) ≤ 1
    by_test true is = let one = counted_yes 0 x xs is in omega arith
    by_test false is = let one = counted_no 0 x xs is in omega arith
  counted_step (suc n) (x ∷ xs) = by_test (test x) refl (counted_step n xs) where
    by_test : (b : Bool) → test x ≡ b → counted (suc n) xs ≤ suc (counted n xs) → counted (suc (suc n)) (x ∷ xs) ≤ suc (counted (suc n) (x ∷ xs))
    by_test true is rest = let here = counted_yes n x xs is in let next = counted_yes (suc n) x xs is in omega arith
    by_test false is rest = let here = counted_no n x xs is in let next = counted_no (suc n) x xs is in omega arith

  pub counted_most : (n : ℕ) (xs : List X) → counted n xs ≤ length (filter test xs)
  counted_most zero xs = omega arith
  counted_most (suc n) [] = omega arith
  counted_most (suc n) (x ∷ xs) = by_test (test x) refl (counted_most n xs) where
    by_test : (b : Bool) → test x ≡ b → counted n xs ≤ length (filter test xs) → counted (suc n) (x ∷ xs) ≤ length (filter test (x ∷ xs))
    by_test true is rest = rw is (omega arith)
    by_test false is rest = rw is (omega arith)

  pub counted_up : (m n : ℕ) (xs : List X) → m ≤ n → counted m xs ≤ counted n xs
  counted_up zero n xs le = omega arith
  counted_up (suc m) zero xs le = absurd (omega arith)
  counted_up (suc m) (suc n) [] le = omega arith
  counted_up (suc m) (suc n) (x ∷ xs) le = let rest = counted_up m n xs (omega arith) in omega arith

  -- an element that passes is counted
  pub counted_past : (n : ℕ) (xs : List X) (x : X) → slice_get xs n ≡ Some x → test x ≡ true → counted (suc n) xs ≡ suc (counted n xs)
  counted_past n [] x found is = cc
  counted_past zero (y ∷ xs) x found is = let same : y ≡ x = same_Some y x found in counted_yes 0 y xs (ap test same ∙ is)
  counted_past (suc n) (y ∷ xs) x found is = let rest = counted_past n xs x found is in omega arith

  pub counted_over : (m n : ℕ) (xs : List X) (x : X) → slice_get xs m ≡ Some x → test x ≡ true → m < n → suc (counted m xs) ≤ counted n xs
  counted_over m n xs x found is less = let past = counted_past m xs x found is in let up = counted_up (suc m) n xs (omega arith) in omega arith

  -- the place of an element among those that pass
  pub at_count : (n : ℕ) (xs : List X) (x : X) → slice_get xs n ≡ Some x → test x ≡ true → slice_get (filter test xs) (counted n xs) ≡ Some x
  at_count n [] x found is = cc
  at_count zero (y ∷ xs) x found is =
      let same : y ≡ x = same_Some y x found in
      ap (λ (ys : List X). slice_get ys 0) (filter_yes test y xs (ap test same ∙ is)) ∙ found
  at_count (suc n) (y ∷ xs) x found is = by_test (test y) refl (at_count n xs x found is) where
    by_test : (b : Bool) → test y ≡ b → slice_get (filter test xs) (counted n xs) ≡ Some x → slice_get (filter test (y ∷ xs)) (counted (suc n) (y ∷ xs)) ≡ Some x
    by_test true passed rest =
        subst (λ (ys : List X). slice_get ys (counted (suc n) (y ∷ xs)) ≡ Some x) (sym (filter_yes test y xs passed))
        (subst (λ (k : ℕ). slice_get (y ∷ filter test xs) k ≡ Some x) (sym (counted_yes n y xs passed)) rest)
    by_test false failed rest =
        subst (λ (ys : List X). slice_get ys (counted (suc n) (y ∷ xs)) ≡ Some x) (sym (filter_no test y xs failed))
        (subst (λ (k : ℕ). slice_get (filter test xs) k ≡ Some x) (sym (counted_no n y xs failed)) rest)

  -- where the element of a number stands
  pub record Stands (xs : List X) (i : ℕ) (x : X) : Type 0 where
    pub place : ℕ
    pub found : slice_get xs place ≡ Some x
    pub number : counted place xs ≡ i
    pub passes : test x ≡ true

  pub stands : (xs : List X) (i : ℕ) (x : X) → slice_get (filter test xs) i ≡ Some x → Stands xs i x
  stands [] i x found = cc
  stands (y ∷ xs) i x found = by_test (test y) refl (λ (k : ℕ) there. stands xs k x there) where
    later : (k : ℕ) → counted 1 (y ∷ []) + k ≡ i → Stands xs k x → Stands (y ∷ xs) i x
    later k same s = record { place = suc s.place; found = s.found; number = omega (arith, s.number); passes = s.passes }

    by_test : (b : Bool) → test y ≡ b → ((k : ℕ) → slice_get (filter test xs) k ≡ Some x → Stands xs k x) → Stands (y ∷ xs) i x
    by_test false failed rest =
        let none = counted_no 0 y [] failed in
        later i (omega arith) (rest i (subst (λ (ys : List X). slice_get ys i ≡ Some x) (filter_no test y xs failed) found))
    by_test true passed rest = by_number i refl (subst (λ (ys : List X). slice_get ys i ≡ Some x) (filter_yes test y xs passed) found) where
      by_number : (k : ℕ) → k ≡ i → slice_get (y ∷ filter test xs) k ≡ Some x → Stands (y ∷ xs) i x
      by_number zero e there = let same : y ≡ x = same_Some y x there in record { place = 0; found = there; number = e; passes = ap test (sym same) ∙ passed }
      by_number (suc k) e there = let one = counted_yes 0 y [] passed in later k (omega arith) (rest k there)

  -- between two places there is one with each count between theirs
  pub record Cut (xs : List X) (from until count : ℕ) : Type 0 where
    pub place : ℕ
    pub after : from ≤ place
    pub before : place ≤ until
    pub number : counted place xs ≡ count

  pub cut : (xs : List X) (from until count : ℕ) → counted from xs ≤ count → count ≤ counted until xs → from ≤ until → Cut xs from until count
  cut xs from zero count low high le =
      let start : from ≡ 0 = omega arith in
      let none : counted from xs ≡ 0 = ap (λ (n : ℕ). counted n xs) start in
      record { place = 0; after = le; before = omega arith; number = omega arith }
  cut xs from (suc until) count low high le = by_order (cases_lt count (counted (suc until) xs)) (λ (less : count ≤ counted until xs) (before : from ≤ until). cut xs from until count low less before)
    where
      not_after : count < counted (suc until) xs → from ≤ until
      not_after less = by_place (cases_lt until from) where
        by_place : (until < from) ⊎ (from ≤ until) → from ≤ until
        by_place (inr before) = before
        by_place (inl past) = let up = counted_up (suc until) from xs (omega arith) in absurd (omega arith)

      by_order : (count < counted (suc until) xs) ⊎ (counted (suc until) xs ≤ count) → (count ≤ counted until xs → from ≤ until → Cut xs from until count) → Cut xs from (suc until) count
      by_order (inl less) earlier =
          let step = counted_step until xs in
          let c = earlier (omega arith) (not_after less) in
          record { place = c.place; after = c.after; before = omega (arith, c.before); number = c.number }
      by_order (inr same) earlier = record { place = suc until; after = le; before = omega arith; number = omega arith }

  -- an element that passes is the only one where at most one does
  pub only_one : (xs : List X) (m n : ℕ) (x y : X) → length (filter test xs) ≤ 1 → slice_get xs m ≡ Some x → slice_get xs n ≡ Some y → test x ≡ true → test y ≡ true → m ≡ n
  only_one xs m n x y one here there is also = by_order (cases_lt m n) where
    apart : (i j : ℕ) (v w : X) → slice_get xs i ≡ Some v → slice_get xs j ≡ Some w → test v ≡ true → test w ≡ true → i < j → ⊥
    apart i j v w first second passed too less =
        let over = counted_over i j xs v first passed less in
        let past = counted_past j xs w second too in
        let most = counted_most (suc j) xs in
        omega arith

    by_order : (m < n) ⊎ (n ≤ m) → m ≡ n
    by_order (inl less) = absurd (apart m n x y here there is also less)
    by_order (inr le) = by_other (cases_lt n m) where
      by_other : (n < m) ⊎ (m ≤ n) → m ≡ n
      by_other (inl less) = absurd (apart n m y x there here also is less)
      by_other (inr ge) = omega arith
