-- What leads to the steps of a prefix of a history stands in the prefix.
use Rattle.std.proofs.Common.{◌≡◌, ◌≢◌, refl, sym, ap, ◌∙◌, ℕ, zero, suc, ◌+◌, ◌<◌, Bool, true, false, List, [], ◌∷◌, ◌++◌, take, drop, Some, arith}
use Rattle.std.specs.Prelude.{slice_get}
use Rattle.std.proofs.lemmas.List.{append-nil, take-append-drop}
use Rattle.step_history.specs.declared.item.Item.{Item}
use Rattle.step_history.specs.declared.item.Deed.TheVariants.{Split, Home}
use Rattle.step_history.specs.History.{Name, name_eq, item, of, Legal}
use Rattle.step_history.proofs.Names.{same_name}
use Rattle.step_history.proofs.Folds.{of-append}
use Rattle.step_history.proofs.SplitsAndHomes.{take_found, found_take, split_before, home_after}

-- a step of a name among the items of that name
record StepOf (name : Name) (log : List Item) : Type 0 where
  place : ℕ
  x : Item
  found : slice_get log place ≡ Some x
  named : x.name ≡ name

step_of : (name : Name) (log : List Item) → (of name log ≢ []) → StepOf name log
step_of name [] some = absurd (some refl)
step_of name (x ∷ log) some = at (name_eq x.name name) refl (step_of name log) where
  at : (b : Bool) → name_eq x.name name ≡ b → ((of name log ≢ []) → StepOf name log) → StepOf name (x ∷ log)
  at true is later = record { place = 0; x = x; found = refl; named = same_name x.name name is }
  at false is later =
      let rest : of name (x ∷ log) ≡ of name log = rw is refl in
      let s = later (λ none. some (rest ∙ none)) in
      record { place = suc s.place; x = s.x; found = s.found; named = s.named }

none_of : (name : Name) (log : List Item) → ((n : ℕ) (x : Item) → slice_get log n ≡ Some x → x.name ≡ name → ⊥) → of name log ≡ []
none_of name [] none = refl
none_of name (x ∷ log) none = at (name_eq x.name name) refl (none_of name log (λ n y found. none (suc n) y found)) where
  at : (b : Bool) → name_eq x.name name ≡ b → of name log ≡ [] → of name (x ∷ log) ≡ []
  at true is rest = absurd (none 0 x refl (same_name x.name name is))
  at false is rest = (let skip : of name (x ∷ log) ≡ of name log = rw is refl in skip) ∙ rest

drop_found : (log : List Item) (k n : ℕ) → slice_get (drop k log) n ≡ slice_get log (k + n)
drop_found log zero n = ap (λ (m : ℕ). slice_get log m) (let e : n ≡ 0 + n = omega arith in e)
drop_found [] (suc k) n = refl
drop_found (x ∷ log) (suc k) n = drop_found log k n ∙ ap (λ (m : ℕ). slice_get (x ∷ log) m) (let e : suc (k + n) ≡ suc k + n = omega arith in e)

pub split_within : (log : List Item) (n : ℕ) (parent : Name) (k : ℕ) → Legal log → (of (k ∷ parent) (take n log) ≢ [])
    → (place : ℕ) × (lane : ℕ) × (span : ℕ) × (slice_get (take n log) place ≡ Some (item parent (Split k lane span)))
split_within log n parent k legal some =
    let s = step_of (k ∷ parent) (take n log) some in
    let there = take_found log n s.place s.x s.found in
    let split = split_before log s.place s.x parent k legal there.1 s.named in
    let less : split.place < n = omega (arith, split.before, there.0) in
    (split.place, split.lane, split.span, found_take log n split.place (item parent (Split k split.lane split.span)) less split.found)

pub whole_within : (log : List Item) (n place : ℕ) (parent : Name) (k : ℕ) → Legal log → slice_get (take n log) place ≡ Some (item parent (Home k)) → of (k ∷ parent) (take n log) ≡ of (k ∷ parent) log
whole_within log n place parent k legal home =
    sym (append-nil (of (k ∷ parent) (take n log)))
    ∙ ap (λ (xs : List Item). of (k ∷ parent) (take n log) ++ xs) (sym none)
    ∙ sym (of-append (k ∷ parent) (take n log) (drop n log))
    ∙ ap (λ (xs : List Item). of (k ∷ parent) xs) (take-append-drop n log)
  where
    none : of (k ∷ parent) (drop n log) ≡ []
    none = none_of (k ∷ parent) (drop n log) (λ m x found named.
        let there = take_found log n place (item parent (Home k)) home in
        let before = home_after log (n + m) x parent k legal (sym (drop_found log n m) ∙ found) named place there.1 in
        absurd (omega (arith, there.0)))
