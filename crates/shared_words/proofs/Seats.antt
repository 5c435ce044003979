-- Which view is in which seat, and what was done under the names that sit there.
use Rattle.std.proofs.Common.{◌≡◌, refl, sym, ap, ◌∙◌, subst, ℕ, zero, suc, ◌<◌, Bool, true, false, cond, eq-eqb, ne_eqb, List, [], ◌∷◌, ◌++◌, length, set, arith}
use Rattle.std.specs.Prelude.{◌==◌}
use Rattle.std.proofs.lemmas.List.{append-nil}
use mathlib.Core.Logic.{dite}
use mathlib.Core.Option.{some, some-injective, some-ne-none}
use native.Mathlib.Decide.{ℕ_discrete}
use lib.ListN.{get_elem?}
use Rattle.atomic_table.proofs.Lists.{set_here, set_else}
use Rattle.step_history.specs.declared.item.Item.{Item}
use Rattle.step_history.specs.declared.item.Deed.{Deed}
use Rattle.step_history.specs.History.{Name, name_eq, item, of}
use Rattle.step_history.proofs.Names.{same_name, apart_names}
use Rattle.step_history.proofs.Folds.{of-append, of_other}
use Rattle.shared_words.specs.declared.view.View.{View}
use Rattle.shared_words.specs.Rule.{HasLive, Lives}

abbrev pub At : List View → ℕ → View → Type 0
At views id v = get_elem? views id ≡ some v

pub at_within : (views : List View) (id : ℕ) (v : View) → At views id v → id < length views
at_within [] id v at = absurd (some-ne-none v (sym at))
at_within (x ∷ xs) zero v at = omega arith
at_within (x ∷ xs) (suc id) v at = let within = at_within xs id v at in omega arith

pub at_some : (views : List View) (id : ℕ) → id < length views → (v : View) × At views id v
at_some [] id within = absurd (omega arith)
at_some (x ∷ xs) zero within = (x, refl)
at_some (x ∷ xs) (suc id) within = at_some xs id (omega arith)

pub same_at : (views : List View) (id : ℕ) (v w : View) → At views id v → At views id w → v ≡ w
same_at views id v w one other = some-injective v w (sym one ∙ other)

-- two live hands in two seats have two names
pub names_apart : (log : List Item) (seat : Name → ℕ) (views : List View) (i j : ℕ) (u v : View)
    → Lives log seat views i u → Lives log seat views j v → (i ≡ j → ⊥) → u.name ≡ v.name → ⊥
names_apart log seat views i j u v one other apart same = apart (sym one.sits ∙ (ap seat same ∙ other.sits))

-- a live hand with a new view still has what it had
pub live_stays : (seat : Name → ℕ) (views : List View) (id : ℕ) (v w : View) (p : Name) (P : View → Type 0) → At views id v → w.live ≡ true → w.name ≡ v.name
    → (P v → P w) → HasLive seat views p P → HasLive seat (set views id w) p P
live_stays seat views id v w p P at live named keeps has = dite (ℕ_discrete (seat p) id)
    (λ here.
    let There : ℕ → Type 0 = λ j. At (set views id w) j w in
    let Was : ℕ → Type 0 = λ j. At views j has.view in
    let same : has.view ≡ v = same_at views id has.view v (subst Was here has.there) at in
    record {
      view = w;
      there = subst There (sym here) (set_here views id w (at_within views id v at));
      live = live;
      named = named ∙ (ap (λ (x : View). x.name) (sym same) ∙ has.named);
      has = keeps (subst P same has.has);
    })
    (λ elsewhere. record {
      view = has.view;
      there = set_else views id (seat p) w elsewhere ∙ has.there;
      live = has.live;
      named = has.named;
      has = has.has;
    })

-- what is shown under a name, when its seat's view and the history get one step more
pub shown_own : (seat : Name → ℕ) (id : ℕ) (own : Name) (deed : Deed) (log items : List Item) (name : Name) → seat own ≡ id
    → of name items ≡ cond (seat name == id) (of name log) []
    → of name (items ++ item own deed ∷ []) ≡ cond (seat name == id) (of name (log ++ item own deed ∷ [])) []
shown_own seat id own deed log items name sits shown =
    of-append name items (item own deed ∷ [])
    ∙ (ap (λ (l : List Item). l ++ of name (item own deed ∷ [])) shown
    ∙ (at (name_eq own name) refl ∙ ap (λ (l : List Item). cond (seat name == id) l []) (sym (of-append name log (item own deed ∷ [])))))
  where
    here : (b : Bool) (xs ys : List Item) → b ≡ true → cond b xs [] ++ ys ≡ cond b (xs ++ ys) []
    here true xs ys is = refl
    here false xs ys is = cc

    nothing : (b : Bool) (xs ys : List Item) → ys ≡ [] → cond b xs [] ++ ys ≡ cond b (xs ++ ys) []
    nothing true xs ys none = refl
    nothing false xs ys none = none

    at : (b : Bool) → name_eq own name ≡ b
        → cond (seat name == id) (of name log) [] ++ of name (item own deed ∷ []) ≡ cond (seat name == id) (of name log ++ of name (item own deed ∷ [])) []
    at true is = here (seat name == id) (of name log) (of name (item own deed ∷ [])) (eq-eqb (seat name) id (ap seat (sym (same_name own name is)) ∙ sits))
    at false is = nothing (seat name == id) (of name log) (of name (item own deed ∷ [])) (of_other name own deed (apart_names own name is))

-- another's step shows nothing under the names of a seat
pub shown_other : (seat : Name → ℕ) (id : ℕ) (own : Name) (deed : Deed) (log items : List Item) (name : Name) → (seat own ≡ id → ⊥)
    → of name items ≡ cond (seat name == id) (of name log) []
    → of name items ≡ cond (seat name == id) (of name (log ++ item own deed ∷ [])) []
shown_other seat id own deed log items name apart shown = shown ∙ at (name_eq own name) refl
  where
    elsewhere : (b : Bool) (xs ys : List Item) → b ≡ false → cond b xs [] ≡ cond b ys []
    elsewhere true xs ys is = cc
    elsewhere false xs ys is = refl

    at : (b : Bool) → name_eq own name ≡ b → cond (seat name == id) (of name log) [] ≡ cond (seat name == id) (of name (log ++ item own deed ∷ [])) []
    at true is = elsewhere (seat name == id) (of name log) (of name (log ++ item own deed ∷ []))
        (ne_eqb (seat name) id (λ sits. apart (ap seat (same_name own name is) ∙ sits)))
    at false is = ap (λ (l : List Item). cond (seat name == id) l [])
        (sym (of-append name log (item own deed ∷ []) ∙ (ap (λ (l : List Item). of name log ++ l) (of_other name own deed (apart_names own name is)) ∙ append-nil (of name log))))
