-- Runs of which no two of one key interleave, in any order and then in that of their first addresses.
use Rattle.std.proofs.Common.{◌≡◌, ℕ, ◌+◌, ◌-◌, ◌<◌, List, [], ◌∷◌, ◌++◌, length, get_or, set, Contains, inl, inr, refl, sym, ◌∙◌, ap, subst, arith, length-append, get_or-set_same, get_or-set_other}
use Rattle.std.specs.List.{swap}
use Rattle.std.specs.List.Sorted.{IsNonDecreasingBy, IsPermutation}
use Rattle.std.proofs.Math.ListN.{length-set}
use Rattle.std.proofs.lemmas.Bool.{cases_eq, cases_lt}
use Rattle.std.proofs.lemmas.List.{get_or_append_left, get_or-append_right, get_or_default}
use Rattle.std.proofs.lemmas.List.Sorted.{IsPermutation-keeps}
use Rattle.stride_summary.specs.declared.run.Run.{Run}
use Rattle.stride_summary.specs.Run.{Apart, AreApart, EachApart}

turned : (one other : Run) → Apart one other → Apart other one
turned one other apart same = elim (apart (sym same)) [ inl before ↦ inr before | inr after ↦ inl after ]

pub EachApart-from_AreApart : (runs : List Run) → AreApart runs → EachApart runs
EachApart-from_AreApart runs apart i j d differ in_i in_j same = elim (cases_lt i j) [
  | inl less ↦ inl (apart i j d less in_j same)
  | inr not ↦ inr (apart j i d (omega arith) in_i (sym same))
]

-- where it stands in two lists joined
data At (xs ys : List Run) (i : ℕ) (d : Run) : Type 0 where
  front : i < length xs → get_or (xs ++ ys) i d ≡ get_or xs i d → At xs ys i d
  back : (k : ℕ) → i ≡ length xs + k → k < length ys → get_or (xs ++ ys) i d ≡ get_or ys k d → At xs ys i d

at : (xs ys : List Run) (i : ℕ) (d : Run) → i < length (xs ++ ys) → At xs ys i d
at xs ys i d within = elim (cases_lt i (length xs)) [
  | inl less ↦ front less (get_or_append_left xs ys d i less)
  | inr not ↦ back (i - length xs) (omega arith) (omega (arith, length-append xs ys)) (get_or-append_right xs ys (length xs) i d refl not)
]

pub EachApart-append : (xs ys : List Run) → EachApart xs → EachApart ys → ((r s : Run) → Contains xs r → Contains ys s → Apart r s) → EachApart (xs ++ ys)
EachApart-append xs ys first second across i j d differ in_i in_j = elim (at xs ys i d in_i) [
  | front less is ↦ elim (at xs ys j d in_j) [
    | front less' is' ↦ subst (λ (r : Run). Apart r (get_or (xs ++ ys) j d)) (sym is) (subst (λ (s : Run). Apart (get_or xs i d) s) (sym is') (first i j d differ less less'))
    | back k eq within is' ↦ subst (λ (r : Run). Apart r (get_or (xs ++ ys) j d)) (sym is) (subst (λ (s : Run). Apart (get_or xs i d) s) (sym is') (across (get_or xs i d) (get_or ys k d) (listed xs i d less) (listed ys k d within)))
  ]
  | back k eq within is ↦ elim (at xs ys j d in_j) [
    | front less' is' ↦ subst (λ (r : Run). Apart r (get_or (xs ++ ys) j d)) (sym is) (subst (λ (s : Run). Apart (get_or ys k d) s) (sym is') (turned (get_or xs j d) (get_or ys k d) (across (get_or xs j d) (get_or ys k d) (listed xs j d less') (listed ys k d within))))
    | back k' eq' within' is' ↦ subst (λ (r : Run). Apart r (get_or (xs ++ ys) j d)) (sym is) (subst (λ (s : Run). Apart (get_or ys k d) s) (sym is') (second k k' d (λ same. differ (omega arith)) within within'))
  ]
]
  where
    listed : (rs : List Run) (n : ℕ) (e : Run) → n < length rs → Contains rs (get_or rs n e)
    listed rs n e within = (n, within, get_or_default rs n (get_or rs n e) e within)

-- where an element comes from when two places are swapped
pub data Moved (a b k m : ℕ) : Type 0 where
  second : k ≡ b → m ≡ a → Moved a b k m
  first : (k ≡ b → ⊥) → k ≡ a → m ≡ b → Moved a b k m
  still : (k ≡ b → ⊥) → (k ≡ a → ⊥) → m ≡ k → Moved a b k m

moved_apart : (a b i j m n : ℕ) → Moved a b i m → Moved a b j n → (i ≡ j → ⊥) → m ≡ n → ⊥
moved_apart a b i j m n (second p q) (second p' q') differ same = differ (omega arith)
moved_apart a b i j m n (second p q) (first p' q' r') differ same = differ (omega arith)
moved_apart a b i j m n (second p q) (still p' q' r') differ same = q' (omega arith)
moved_apart a b i j m n (first p q r) (second p' q') differ same = differ (omega arith)
moved_apart a b i j m n (first p q r) (first p' q' r') differ same = differ (omega arith)
moved_apart a b i j m n (first p q r) (still p' q' r') differ same = p' (omega arith)
moved_apart a b i j m n (still p q r) (second p' q') differ same = q (omega arith)
moved_apart a b i j m n (still p q r) (first p' q' r') differ same = p (omega arith)
moved_apart a b i j m n (still p q r) (still p' q' r') differ same = differ (omega arith)

pub record CameFrom (l : List Run) (a b k : ℕ) (d : Run) : Type 0 where
  pub from : ℕ
  pub within : from < length l
  pub is : get_or (swap l a b) k d ≡ get_or l from d
  pub moved : Moved a b k from

came_from : (l : List Run) (a b k : ℕ) (d : Run) → a < length l → b < length l → k < length l → CameFrom l a b k d
came_from [] a b k d in_a in_b in_k = absurd (omega arith)
came_from (e ∷ ys) a b k d in_a in_b in_k = elim (cases_eq k b) [
  | inl is_b ↦ record { from = a; within = in_a; is = at_second is_b; moved = second is_b refl }
  | inr not_b ↦ elim (cases_eq k a) [
    | inl is_a ↦ record { from = b; within = in_b; is = at_first not_b is_a; moved = first not_b is_a refl }
    | inr not_a ↦ record { from = k; within = in_k; is = get_or-set_other _ b k _ d not_b ∙ get_or-set_other (e ∷ ys) a k _ d not_a; moved = still not_b not_a refl }
  ]
]
  where
    at_second : k ≡ b → get_or (swap (e ∷ ys) a b) k d ≡ get_or (e ∷ ys) a d
    at_second is_b = ap (λ n. get_or (swap (e ∷ ys) a b) n d) is_b ∙ get_or-set_same (set (e ∷ ys) a (get_or (e ∷ ys) b e)) b (get_or (e ∷ ys) a e) d (omega (arith, length-set (e ∷ ys) a (get_or (e ∷ ys) b e), in_b)) ∙ get_or_default (e ∷ ys) a e d in_a

    at_first : (k ≡ b → ⊥) → k ≡ a → get_or (swap (e ∷ ys) a b) k d ≡ get_or (e ∷ ys) b d
    at_first not_b is_a = get_or-set_other (set (e ∷ ys) a (get_or (e ∷ ys) b e)) b k (get_or (e ∷ ys) a e) d not_b
        ∙ ap (λ n. get_or (set (e ∷ ys) a (get_or (e ∷ ys) b e)) n d) is_a
        ∙ get_or-set_same (e ∷ ys) a (get_or (e ∷ ys) b e) d in_a ∙ get_or_default (e ∷ ys) b e d in_b

length-swap : (l : List Run) (a b : ℕ) → length (swap l a b) ≡ length l
length-swap [] a b = refl
length-swap (e ∷ ys) a b = length-set (set (e ∷ ys) a (get_or (e ∷ ys) b e)) b (get_or (e ∷ ys) a e) ∙ length-set (e ∷ ys) a (get_or (e ∷ ys) b e)

pub EachApart-permutation : (runs sorted : List Run) → IsPermutation runs sorted → EachApart runs → EachApart sorted
EachApart-permutation runs sorted same apart = IsPermutation-keeps runs EachApart apart step sorted same
  where
    step : (l : List Run) (a b : ℕ) → a < length l → b < length l → EachApart l → EachApart (swap l a b)
    step l a b in_a in_b each i j d differ in_i in_j =
        let one : CameFrom l a b i d = came_from l a b i d in_a in_b (omega (arith, length-swap l a b, in_i)) in
        let other : CameFrom l a b j d = came_from l a b j d in_a in_b (omega (arith, length-swap l a b, in_j)) in
        subst (λ (r : Run). Apart r (get_or (swap l a b) j d)) (sym one.is)
        (subst (λ (s : Run). Apart (get_or l one.from d) s) (sym other.is)
        (each one.from other.from d (moved_apart a b i j one.from other.from one.moved other.moved differ) one.within other.within))

-- in order of the first addresses
pub AreApart-from_each : (runs : List Run) → EachApart runs → IsNonDecreasingBy (λ (r : Run). r.base) runs → AreApart runs
AreApart-from_each runs each rising i j d less within same = elim (each i j d (λ eq. omega arith) (omega arith) within same) [
  | inl before ↦ before
  | inr after ↦ absurd (omega (arith, after, rising i j d (omega arith) within))
]
