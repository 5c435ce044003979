-- The folds of a history at one more step, and at a list put behind another.
use Rattle.std.proofs.Common.{◌≡◌, refl, sym, ap, ap₂, ◌∙◌, subst, ℕ, Bool, true, false, cond, List, [], ◌∷◌, ◌++◌, Option, None}
use Rattle.std.specs.Prelude.{◌&&◌, ◌||◌, not}
use Rattle.std.specs.List.{list_any}
use Rattle.std.proofs.lemmas.List.{append-nil, append_assoc}
use Rattle.std.proofs.lemmas.List.Elements.{filter-append}
use Rattle.std.proofs.lemmas.List.Folds.{list_any-append}
use Rattle.step_history.specs.declared.item.Item.{Item}
use Rattle.step_history.specs.declared.item.Deed.{Deed}
use Rattle.step_history.specs.History.{Name, name_eq, item, of, value_at, value_from, value_after, holder, holder_from, holder_after, is_split, is_home, was_split, came_home, is_out, Fits, LegalAfter, Legal}
use Rattle.step_history.proofs.Names.{other_name}

value_from-append : (word : ℕ) (xs ys : List Item) (value : ℕ) → value_from word (xs ++ ys) value ≡ value_from word ys (value_from word xs value)
value_from-append word [] ys value = refl
value_from-append word (x ∷ xs) ys value = value_from-append word xs ys (value_after word x.deed value)

pub value_more : (word : ℕ) (log : List Item) (x : Item) → value_at word (log ++ x ∷ []) ≡ value_after word x.deed (value_at word log)
value_more word log x = value_from-append word log (x ∷ []) 0

pub holder_from-append : (mutex : ℕ) (xs ys : List Item) (owner : Option Name) → holder_from mutex (xs ++ ys) owner ≡ holder_from mutex ys (holder_from mutex xs owner)
holder_from-append mutex [] ys owner = refl
holder_from-append mutex (x ∷ xs) ys owner = holder_from-append mutex xs ys (holder_after mutex x.name x.deed owner)

pub holder_more : (mutex : ℕ) (log : List Item) (x : Item) → holder mutex (log ++ x ∷ []) ≡ holder_after mutex x.name x.deed (holder mutex log)
holder_more mutex log x = holder_from-append mutex log (x ∷ []) None

-- what is legal after a list and begins with xs, goes on legally after both
pub legal_rest : (before xs ys : List Item) → LegalAfter before (xs ++ ys) → LegalAfter (before ++ xs) ys
legal_rest before [] ys legal = let P : List Item → Type 0 = λ h. LegalAfter h ys in subst P (sym (append-nil before)) legal
legal_rest before (x ∷ xs) ys legal =
    let P : List Item → Type 0 = λ h. LegalAfter h ys in
    subst P (append_assoc before (x ∷ []) xs) (legal_rest (before ++ x ∷ []) xs ys legal.1)

legal_after_more : (before xs : List Item) (x : Item) → LegalAfter before xs → Fits (before ++ xs) x → LegalAfter before (xs ++ x ∷ [])
legal_after_more before [] x legal fits = let P : List Item → Type 0 = λ h. Fits h x in (subst P (append-nil before) fits, tt)
legal_after_more before (y ∷ ys) x legal fits =
    let P : List Item → Type 0 = λ h. Fits h x in
    (legal.0, legal_after_more (before ++ y ∷ []) ys x legal.1 (subst P (sym (append_assoc before (y ∷ []) ys)) fits))

pub legal_more : (log : List Item) (x : Item) → Legal log → Fits log x → Legal (log ++ x ∷ [])
legal_more log x legal fits = legal_after_more [] log x legal fits

pub of-append : (name : Name) (xs ys : List Item) → of name (xs ++ ys) ≡ of name xs ++ of name ys
of-append name xs ys = filter-append (λ (x : Item). name_eq x.name name) xs ys

pub of_other : (name other : Name) (deed : Deed) → (other ≡ name → ⊥) → of name (item other deed ∷ []) ≡ []
of_other name other deed apart = ap (λ (b : Bool). cond b (item other deed ∷ []) []) (other_name other name apart)

or_false : (b : Bool) → (b || false) ≡ b
or_false true = refl
or_false false = refl

pub was_split_more : (p : Name) (k : ℕ) (log : List Item) (x : Item) → was_split p k (log ++ x ∷ []) ≡ (was_split p k log || (name_eq x.name p && is_split k x.deed))
was_split_more p k log x =
    list_any-append (λ (y : Item). name_eq y.name p && is_split k y.deed) log (x ∷ [])
    ∙ ap (λ (b : Bool). was_split p k log || b) (or_false (name_eq x.name p && is_split k x.deed))

pub came_home_more : (p : Name) (k : ℕ) (log : List Item) (x : Item) → came_home p k (log ++ x ∷ []) ≡ (came_home p k log || (name_eq x.name p && is_home k x.deed))
came_home_more p k log x =
    list_any-append (λ (y : Item). name_eq y.name p && is_home k y.deed) log (x ∷ [])
    ∙ ap (λ (b : Bool). came_home p k log || b) (or_false (name_eq x.name p && is_home k x.deed))

-- the hand k ∷ p is out only where it was split off and isn't joined
pub out_is_split : (k : ℕ) (p : Name) (log : List Item) → is_out (k ∷ p) log ≡ true → was_split p k log ≡ true
out_is_split k p log out = at (was_split p k log) (not (came_home p k log)) out
  where
    at : (a b : Bool) → (a && b) ≡ true → a ≡ true
    at true b is = refl
    at false b is = cc

pub still_out : (split home more : Bool) → (split && not home) ≡ true → ((split || more) && not (home || false)) ≡ true
still_out true false more is = refl
still_out true true more is = cc
still_out false home more is = cc

-- a hand that is out stays out, unless it comes home
pub out_stays : (name : Name) (log : List Item) (x : Item) → is_out name log ≡ true
    → ((k : ℕ) (p : Name) → name ≡ k ∷ p → (name_eq x.name p && is_home k x.deed) ≡ false) → is_out name (log ++ x ∷ []) ≡ true
out_stays [] log x out away = refl
out_stays (k ∷ p) log x out away =
    ap₂ (λ (a b : Bool). a && not b) (was_split_more p k log x) (came_home_more p k log x ∙ ap (λ (b : Bool). came_home p k log || b) (away k p refl))
    ∙ still_out (was_split p k log) (came_home p k log) (name_eq x.name p && is_split k x.deed) out

-- the hand is out right after its split
pub out_at_split : (p : Name) (k : ℕ) (log : List Item) (x : Item) → (name_eq x.name p && is_split k x.deed) ≡ true
    → (name_eq x.name p && is_home k x.deed) ≡ false → came_home p k log ≡ false → is_out (k ∷ p) (log ++ x ∷ []) ≡ true
out_at_split p k log x splits stays none =
    ap₂ (λ (a b : Bool). a && not b)
    (was_split_more p k log x ∙ (ap (λ (b : Bool). was_split p k log || b) splits ∙ or_true (was_split p k log)))
    (came_home_more p k log x ∙ ap₂ (λ (a b : Bool). a || b) none stays)
  where
    or_true : (b : Bool) → (b || true) ≡ true
    or_true true = refl
    or_true false = refl

-- nothing was done under a name that wasn't split off
pub unborn_more : (log : List Item) (x : Item) → is_out x.name log ≡ true
    → ((k : ℕ) (p : Name) → was_split p k log ≡ false → of (k ∷ p) log ≡ [])
    → (k : ℕ) (p : Name) → was_split p k (log ++ x ∷ []) ≡ false → of (k ∷ p) (log ++ x ∷ []) ≡ []
unborn_more log x out unborn k p none = of-append (k ∷ p) log (x ∷ []) ∙ ap₂ (λ (a b : List Item). a ++ b) (unborn k p before) (of_other (k ∷ p) x.name x.deed apart)
  where
    at : (a b : Bool) → (a || b) ≡ false → a ≡ false
    at false b is = refl
    at true b is = cc

    before : was_split p k log ≡ false
    before = at (was_split p k log) (name_eq x.name p && is_split k x.deed) (sym (was_split_more p k log x) ∙ none)

    apart : x.name ≡ k ∷ p → ⊥
    apart same =
        let P : Name → Type 0 = λ n. is_out n log ≡ true in
        let is : true ≡ false = sym (out_is_split k p log (subst P same out)) ∙ before in cc

list_any_of : (name : Name) (test : Deed → Bool) (log : List Item) → of name log ≡ [] → list_any (λ (x : Item). name_eq x.name name && test x.deed) log ≡ false
list_any_of name test [] none = refl
list_any_of name test (x ∷ xs) none = at (name_eq x.name name) none (list_any_of name test xs)
  where
    at : (b : Bool) → cond b (x ∷ of name xs) (of name xs) ≡ []
        → (of name xs ≡ [] → list_any (λ (y : Item). name_eq y.name name && test y.deed) xs ≡ false)
        → ((b && test x.deed) || list_any (λ (y : Item). name_eq y.name name && test y.deed) xs) ≡ false
    at true is later = cc
    at false is later = later is

-- who did nothing split off nobody, and nobody came home to it
pub nothing_split : (name : Name) (k : ℕ) (log : List Item) → of name log ≡ [] → (was_split name k log ≡ false) × (came_home name k log ≡ false)
nothing_split name k log none = (list_any_of name (is_split k) log none, list_any_of name (is_home k) log none)

-- another's step changes nothing of whom a hand has split off and who came home to it
pub others_split : (name : Name) (k : ℕ) (log : List Item) (x : Item) → (x.name ≡ name → ⊥)
    → (was_split name k (log ++ x ∷ []) ≡ was_split name k log) × (came_home name k (log ++ x ∷ []) ≡ came_home name k log)
others_split name k log x apart = (
  was_split_more name k log x ∙ (ap (λ (b : Bool). was_split name k log || (b && is_split k x.deed)) (other_name x.name name apart) ∙ or_false (was_split name k log)),
  came_home_more name k log x ∙ (ap (λ (b : Bool). came_home name k log || (b && is_home k x.deed)) (other_name x.name name apart) ∙ or_false (came_home name k log)),
)
