-- What a hand does stands after its split, and before its homecoming.
use Rattle.std.proofs.Common.{◌≡◌, ◌⊎◌, inl, inr, refl, sym, ap, ◌∙◌, subst, ℕ, zero, suc, ◌<◌, ◌≤◌, Bool, true, false, List, [], ◌∷◌, ◌++◌, length, take, Some, arith}
use Rattle.std.specs.Prelude.{◌&&◌, ◌||◌, ◌==◌, not, slice_get}
use Rattle.std.specs.List.{list_any}
use Rattle.std.proofs.lemmas.Bool.{cases_lt, and_parts}
use Rattle.std.proofs.lemmas.List.{append-nil, append_assoc}
use Rattle.std.proofs.lemmas.Option.{same_Some}
use Rattle.step_history.specs.declared.item.Item.{Item}
use Rattle.step_history.specs.declared.item.Deed.{Deed}
use Rattle.step_history.specs.declared.item.Deed.TheVariants.{Read, Write, Lock, Unlock, Split, Home, Update}
use Rattle.step_history.specs.History.{Name, name_eq, item, is_split, is_home, was_split, came_home, is_out, Fits, LegalAfter, Legal}
use Rattle.step_history.proofs.Names.{same_name, is_same_name}

not_true : (b : Bool) → not b ≡ true → b ≡ false
not_true true e = cc
not_true false e = refl

-- an element that passes a test, and its place
pub record Found {X : Type 0} (test : X → Bool) (xs : List X) : Type 0 where
  pub place : ℕ
  pub x : X
  pub found : slice_get xs place ≡ Some x
  pub passes : test x ≡ true

any_found : {X : Type 0} (test : X → Bool) (xs : List X) → list_any test xs ≡ true → Found test xs
any_found test [] is = cc
any_found {X} test (x ∷ xs) is = by_test (test x) refl (any_found test xs) where
  by_test : (b : Bool) → test x ≡ b → (list_any test xs ≡ true → Found test xs) → Found test (x ∷ xs)
  by_test true passed later = record { place = 0; x = x; found = refl; passes = passed }
  by_test false other later =
      let rest : list_any test xs ≡ true = subst (λ (b : Bool). (b || list_any test xs) ≡ true) other is in
      let f = later rest in
      record { place = suc f.place; x = f.x; found = f.found; passes = f.passes }

found_any : {X : Type 0} (test : X → Bool) (xs : List X) (n : ℕ) (x : X) → slice_get xs n ≡ Some x → test x ≡ true → list_any test xs ≡ true
found_any test [] n x found is = cc
found_any test (y ∷ xs) zero x found is = let yes : test y ≡ true = ap test (same_Some y x found) ∙ is in rw yes refl
found_any test (y ∷ xs) (suc n) x found is = or_true (test y) (found_any test xs n x found is) where
  or_true : (b : Bool) → list_any test xs ≡ true → (b || list_any test xs) ≡ true
  or_true true e = refl
  or_true false e = e

pub take_found : {X : Type 0} (xs : List X) (t s : ℕ) (x : X) → slice_get (take t xs) s ≡ Some x → (s < t) × (slice_get xs s ≡ Some x)
take_found xs zero s x found = cc
take_found [] (suc t) s x found = cc
take_found (y ∷ xs) (suc t) zero x found = (omega arith, found)
take_found (y ∷ xs) (suc t) (suc s) x found = let rest = take_found xs t s x found in (omega (arith, rest.0), rest.1)

pub found_take : {X : Type 0} (xs : List X) (t s : ℕ) (x : X) → s < t → slice_get xs s ≡ Some x → slice_get (take t xs) s ≡ Some x
found_take xs zero s x less found = absurd (omega arith)
found_take [] (suc t) s x less found = cc
found_take (y ∷ xs) (suc t) zero x less found = found
found_take (y ∷ xs) (suc t) (suc s) x less found = found_take xs t s x (omega arith) found

fits_after : (before log : List Item) (t : ℕ) (x : Item) → LegalAfter before log → slice_get log t ≡ Some x → Fits (before ++ take t log) x
fits_after before [] t x legal found = cc
fits_after before (y ∷ log) zero x legal found =
    subst (λ (bs : List Item). Fits bs x) (sym (append-nil before)) (subst (λ (z : Item). Fits before z) (same_Some y x found) legal.0)
fits_after before (y ∷ log) (suc t) x legal found =
    subst (λ (bs : List Item). Fits bs x) (append_assoc before (y ∷ []) (take t log)) (fits_after (before ++ y ∷ []) log t x legal.1 found)

-- each step of a legal history fits those before it
pub fits_at : (log : List Item) (t : ℕ) (x : Item) → Legal log → slice_get log t ≡ Some x → Fits (take t log) x
fits_at log t x legal found = fits_after [] log t x legal found

-- the split of a hand, before what it does
pub record SplitBefore (log : List Item) (t : ℕ) (parent : Name) (k : ℕ) : Type 0 where
  pub place : ℕ
  pub lane : ℕ
  pub span : ℕ
  pub before : place < t
  pub found : slice_get log place ≡ Some (item parent (Split k lane span))

module _ (log : List Item) (t : ℕ) (x : Item) (parent : Name) (k : ℕ) (legal : Legal log) (found : slice_get log t ≡ Some x) (named : x.name ≡ k ∷ parent) where
  is_out_then : (was_split parent k (take t log) && not (came_home parent k (take t log))) ≡ true
  is_out_then = ap (λ (n : Name). is_out n (take t log)) (sym named) ∙ (fits_at log t x legal found).out

  parts : (was_split parent k (take t log) ≡ true) × (not (came_home parent k (take t log)) ≡ true)
  parts = and_parts (was_split parent k (take t log)) (not (came_home parent k (take t log))) is_out_then

  pub split_before : SplitBefore log t parent k
  split_before = at (any_found (λ (y : Item). name_eq y.name parent && is_split k y.deed) (take t log) parts.0)
    where
      by_deed : (place : ℕ) (name : Name) (deed : Deed) → place < t → slice_get log place ≡ Some (item name deed) → name ≡ parent → is_split k deed ≡ true → SplitBefore log t parent k
      by_deed place name (Split j lane span) less there same is =
          let number : j ≡ k = grind arith in
          record {
            place = place;
            lane = lane;
            span = span;
            before = less;
            found = there ∙ ap (λ (n : Name). Some (item n (Split j lane span))) same ∙ ap (λ (n : ℕ). Some (item parent (Split n lane span))) number;
          }
      by_deed place name (Read w v) less there same is = cc
      by_deed place name (Write w v) less there same is = cc
      by_deed place name (Lock m) less there same is = cc
      by_deed place name (Unlock m) less there same is = cc
      by_deed place name (Home j) less there same is = cc
      by_deed place name (Update w d) less there same is = cc

      at : Found (λ (y : Item). name_eq y.name parent && is_split k y.deed) (take t log) → SplitBefore log t parent k
      at f =
          let tests = and_parts (name_eq f.x.name parent) (is_split k f.x.deed) f.passes in
          let there = take_found log t f.place f.x f.found in
          by_deed f.place f.x.name f.x.deed there.0 there.1 (same_name f.x.name parent tests.0) tests.1

  pub home_after : (u : ℕ) → slice_get log u ≡ Some (item parent (Home k)) → t < u
  home_after u there = by_order (cases_lt t u)
    where
      passes : (name_eq parent parent && is_home k (Home k)) ≡ true
      passes = both (name_eq parent parent) (k == k) (is_same_name parent) (grind arith) where
        both : (a b : Bool) → a ≡ true → b ≡ true → (a && b) ≡ true
        both true true one other = refl
        both true false one other = cc
        both false b one other = cc

      earlier : u < t → ⊥
      earlier less =
          let home : came_home parent k (take t log) ≡ true
          = found_any (λ (y : Item). name_eq y.name parent && is_home k y.deed) (take t log) u (item parent (Home k)) (found_take log t u (item parent (Home k)) less there) passes in
          let none : came_home parent k (take t log) ≡ false = not_true (came_home parent k (take t log)) parts.1 in
          cc

      same : u ≡ t → ⊥
      same e =
          let it : item parent (Home k) ≡ x = same_Some (item parent (Home k)) x (sym there ∙ ap (λ (n : ℕ). slice_get log n) e ∙ found) in
          let names : parent ≡ k ∷ parent = ap (λ (y : Item). y.name) it ∙ named in
          absurd (omega (arith, ap length names))

      by_order : (t < u) ⊎ (u ≤ t) → t < u
      by_order (inl less) = less
      by_order (inr le) = by_place (cases_lt u t) where
        by_place : (u < t) ⊎ (t ≤ u) → t < u
        by_place (inl less) = absurd (earlier less)
        by_place (inr ge) = absurd (same (omega arith))

pub split_told : (log : List Item) (n : ℕ) (x : Item) (parent : Name) (k : ℕ) → Legal log → slice_get log n ≡ Some x → x.name ≡ k ∷ parent
    → (place : ℕ) × (lane : ℕ) × (span : ℕ) × (place < n) × (slice_get log place ≡ Some (item parent (Split k lane span)))
split_told log n x parent k legal found named =
    let s = split_before log n x parent k legal found named in
    (s.place, s.lane, s.span, s.before, s.found)

-- of two hands of which one comes home before the other is split off, the first does all before the other
pub one_after_other : (log : List Item) (m n place : ℕ) (x y : Item) (parent : Name) (j k : ℕ) → Legal log
    → slice_get log m ≡ Some x → x.name ≡ j ∷ parent → slice_get log n ≡ Some y → y.name ≡ k ∷ parent
    → slice_get log place ≡ Some (item parent (Home j))
    → ((split lane span : ℕ) → slice_get log split ≡ Some (item parent (Split k lane span)) → place < split) → m < n
one_after_other log m n place x y parent j k legal here mine there yours home later =
    let before : m < place = home_after log m x parent j legal here mine place home in
    let s = split_before log n y parent k legal there yours in
    let after : place < s.place = later s.place s.lane s.span s.found in
    omega (arith, s.before)
