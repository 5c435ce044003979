-- Between two locks of one mutex, whoever locked it first unlocks it.
use Rattle.std.proofs.Common.{◌≡◌, refl, sym, ap, ◌∙◌, subst, ℕ, suc, Bool, true, false, cond, ◌==◌, eqb-true, eq-eqb, List, [], ◌∷◌, ◌++◌, Some, None, arith}
use Rattle.std.specs.Prelude.{Contains, ◌==◌}
use Rattle.step_history.specs.declared.item.Item.{Item}
use Rattle.step_history.specs.declared.item.Deed.{Deed}
use Rattle.step_history.specs.declared.item.Deed.TheVariants.{Read, Write, Lock, Unlock, Split, Home, Update}
use Rattle.step_history.specs.History.{Name, item, holder, holder_after, FitsDeed, LegalAfter, Legal}
use Rattle.step_history.proofs.Folds.{holder_more, legal_rest}

-- the mutex that it has stays with a hand over a deed that fits, unless it unlocks it
data Keeps (mutex : ℕ) (owner : Name) (name : Name) (deed : Deed) : Type 0 where
  stays : holder_after mutex name deed (Some owner) ≡ Some owner → Keeps mutex owner name deed
  leaves : item name deed ≡ item owner (Unlock mutex) → Keeps mutex owner name deed

some_apart : {X : Type 0} (x : X) → Some x ≡ None → ⊥
some_apart x differ = cc

some_same : {X : Type 0} (x y : X) → Some x ≡ Some y → x ≡ y
some_same x y same = cc

kept : (mutex : ℕ) (owner name : Name) (before : List Item) → holder mutex before ≡ Some owner
    → (deed : Deed) → FitsDeed before name deed → Keeps mutex owner name deed
kept mutex owner name before has (Read w x) fits = stays refl
kept mutex owner name before has (Write w x) fits = stays refl
kept mutex owner name before has (Split k lane span) fits = stays refl
kept mutex owner name before has (Home k) fits = stays refl
kept mutex owner name before has (Update w d) fits = stays refl
kept mutex owner name before has (Lock m) fits = at (m == mutex) refl
  where
    at : (b : Bool) → (m == mutex) ≡ b → Keeps mutex owner name (Lock m)
    at true same =
        let P : ℕ → Type 0 = λ k. holder k before ≡ None in
        absurd (some_apart owner (sym has ∙ subst P (eqb-true m mutex same) fits))
    at false apart = stays (ap (λ (b : Bool). cond b (Some name) (Some owner)) apart)
kept mutex owner name before has (Unlock m) fits = at (m == mutex) refl
  where
    at : (b : Bool) → (m == mutex) ≡ b → Keeps mutex owner name (Unlock m)
    at true same =
        let P : ℕ → Type 0 = λ k. holder k before ≡ Some name in
        let whose : owner ≡ name = some_same owner name (sym has ∙ subst P (eqb-true m mutex same) fits) in
        leaves (ap (λ (n : Name). item n (Unlock m)) (sym whose) ∙ ap (λ (k : ℕ). item owner (Unlock k)) (eqb-true m mutex same))
    at false apart = stays (ap (λ (b : Bool). cond b None (Some owner)) apart)

here : (x : Item) (xs : List Item) (y : Item) → x ≡ y → Contains (x ∷ xs) y
here x xs y same = (0, omega arith, same)

later : (x : Item) (xs : List Item) (y : Item) → Contains xs y → Contains (x ∷ xs) y
later x xs y found = (suc found.0, let within = found.1 in omega arith, found.2)

unlocked_between : (mutex : ℕ) (owner second : Name) (before mid after : List Item) → holder mutex before ≡ Some owner
    → LegalAfter before (mid ++ item second (Lock mutex) ∷ after) → Contains mid (item owner (Unlock mutex))
unlocked_between mutex owner second before [] after has legal = let fits = legal.0 in absurd (some_apart owner (sym has ∙ fits.fits))
unlocked_between mutex owner second before (x ∷ mid) after has legal =
    let fits = legal.0 in
    elim (kept mutex owner x.name before has x.deed fits.fits) [
      | stays same ↦
          let now : holder mutex (before ++ x ∷ []) ≡ Some owner = holder_more mutex before x ∙ (ap (holder_after mutex x.name x.deed) has ∙ same) in
          later x mid (item owner (Unlock mutex)) (unlocked_between mutex owner second (before ++ x ∷ []) mid after now legal.1)
      | leaves is ↦ here x mid (item owner (Unlock mutex)) is
    ]

pub exclusion : (before mid after : List Item) (first second : Name) (mutex : ℕ)
    → Legal (before ++ item first (Lock mutex) ∷ (mid ++ item second (Lock mutex) ∷ after)) → Contains mid (item first (Unlock mutex))
exclusion before mid after first second mutex legal =
    let rest = legal_rest [] before (item first (Lock mutex) ∷ (mid ++ item second (Lock mutex) ∷ after)) legal in
    let is_mutex : (mutex == mutex) ≡ true = eq-eqb mutex mutex refl in
    let now : holder mutex (before ++ item first (Lock mutex) ∷ []) ≡ Some first =
    holder_more mutex before (item first (Lock mutex)) ∙ ap (λ (b : Bool). cond b (Some first) (holder mutex before)) is_mutex in
    unlocked_between mutex first second (before ++ item first (Lock mutex) ∷ []) mid after now rest.1

-- who holds a mutex holds it over another's step
pub holder_stays : (mutex : ℕ) (owner : Name) (log : List Item) (x : Item) → holder mutex log ≡ Some owner → FitsDeed log x.name x.deed
    → (x.name ≡ owner → ⊥) → holder mutex (log ++ x ∷ []) ≡ Some owner
holder_stays mutex owner log x has fits apart = holder_more mutex log x ∙ (ap (holder_after mutex x.name x.deed) has ∙ elim (kept mutex owner x.name log has x.deed fits) [
  | stays same ↦ same
  | leaves is ↦ absurd (apart (ap (λ (y : Item). y.name) is))
])
