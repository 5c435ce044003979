-- A step of a live hand keeps the rule, where it isn't a homecoming.
use Rattle.std.proofs.Common.{◌≡◌, ◌⊎◌, refl, sym, ap, ap₂, ◌∙◌, subst, ℕ, ◌+◌, ◌<◌, ◌≤◌, Bool, true, false, List, [], ◌∷◌, ◌++◌, length, length-set, get_or, set, Some, arith, inl, inr}
use Rattle.std.specs.Prelude.{◌&&◌, ◌||◌, Contains}
use Rattle.step_history.specs.declared.item.Item.{Item}
use Rattle.step_history.specs.declared.item.Deed.{Deed}
use Rattle.step_history.specs.History.{Name, name_eq, item, of, value_at, value_after, holder, holder_after, is_split, is_home, was_split, came_home, is_out, FitsDeed}
use Rattle.step_history.proofs.Folds.{value_more, holder_more, legal_more, out_stays, unborn_more, others_split, was_split_more, came_home_more}
use Rattle.step_history.proofs.Exclusion.{holder_stays}
use Rattle.atomic_table.proofs.Lists.{at_set, set_here}
use Rattle.shared_words.specs.declared.view.View.{View}
use Rattle.shared_words.specs.Rule.{ELEMENTS, MUTEXES, mutex_word, Once, Lives, Sits, Explains}
use Rattle.shared_words.proofs.Seats.{At, at_within, names_apart, live_stays, shown_own, shown_other}

-- what the step does to the hand's view
pub record Takes (log : List Item) (v : View) (deed : Deed) (w : View) : Type 0 where
  pub named : w.name ≡ v.name
  pub live : w.live ≡ true
  pub more : w.items ≡ v.items ++ item v.name deed ∷ []
  pub fits : FitsDeed log v.name deed
  pub no_home : (k : ℕ) → is_home k deed ≡ false
  pub fresh : (k : ℕ) → w.splits ≤ k → (v.splits ≤ k) × (is_split k deed ≡ false)
  pub holds : (mutex : ℕ) → Contains w.held mutex → holder_after mutex v.name deed (holder mutex log) ≡ Some v.name
  pub once : Once w.held
  pub out : (k : ℕ) → Contains v.out k → Contains w.out k
  pub gains : (mutex : ℕ) (name : Name) → holder_after mutex v.name deed (holder mutex log) ≡ Some name
      → ((holder mutex log ≡ Some name) × (Contains v.held mutex → Contains w.held mutex)) ⊎ ((name ≡ v.name) × Contains w.held mutex)

and_false : (a b : Bool) → b ≡ false → (a && b) ≡ false
and_false true b is = is
and_false false b is = refl

or_falses : (a b c : Bool) → a ≡ false → c ≡ false → (a || (b && c)) ≡ false
or_falses a b c one other = ap₂ (λ (x y : Bool). x || (b && y)) one other ∙ last b
  where
    last : (x : Bool) → (x && false) ≡ false
    last true = refl
    last false = refl

-- the hand that takes the step
own_lives : (log : List Item) (seat : Name → ℕ) (views : List View) (id : ℕ) (v : View) (deed : Deed) (w : View) → At views id v
    → Lives log seat views id v → Takes log v deed w → Lives (log ++ item v.name deed ∷ []) seat (set views id w) id w
own_lives log seat views id v deed w at lives takes =
    let same : v.name ≡ w.name = sym takes.named in
    record {
      sits = ap seat takes.named ∙ lives.sits;
      out = let O : Name → Type 0 = λ n. is_out n (log ++ item v.name deed ∷ []) ≡ true in
          subst O same (out_stays v.name log (item v.name deed) lives.out (λ k p is. and_false (name_eq v.name p) (is_home k deed) (takes.no_home k)));
      fresh = λ k late.
          let before = takes.fresh k late in
          let old = lives.fresh k before.0 in
          let S : Name → Type 0 = λ n. (was_split n k (log ++ item v.name deed ∷ []) ≡ false) × (came_home n k (log ++ item v.name deed ∷ []) ≡ false) in
          subst S same (
            was_split_more v.name k log (item v.name deed) ∙ or_falses (was_split v.name k log) (name_eq v.name v.name) (is_split k deed) old.0 before.1,
            came_home_more v.name k log (item v.name deed) ∙ or_falses (came_home v.name k log) (name_eq v.name v.name) (is_home k deed) old.1 (takes.no_home k),
          );
      holds = λ mutex held. holder_more mutex log (item v.name deed) ∙ (takes.holds mutex held ∙ ap Some same);
      once = takes.once;
      parent = λ k p is. live_stays seat views id v w p (λ (x : View). Contains x.out k) at takes.live takes.named (takes.out k) (lives.parent k p (same ∙ is));
    }

-- another live hand
other_lives : (log : List Item) (seat : Name → ℕ) (views : List View) (id : ℕ) (v : View) (deed : Deed) (w : View) (j : ℕ) (u : View) → At views id v
    → Lives log seat views id v → Takes log v deed w → Lives log seat views j u → (j ≡ id → ⊥) → Lives (log ++ item v.name deed ∷ []) seat (set views id w) j u
other_lives log seat views id v deed w j u at lives takes other apart =
    let differ : v.name ≡ u.name → ⊥ = λ same. names_apart log seat views j id u v other lives apart (sym same) in
    record {
      sits = other.sits;
      out = out_stays u.name log (item v.name deed) other.out (λ k p is. and_false (name_eq v.name p) (is_home k deed) (takes.no_home k));
      fresh = λ k late.
          let old = other.fresh k late in
          let stays = others_split u.name k log (item v.name deed) differ in
          (stays.0 ∙ old.0, stays.1 ∙ old.1);
      holds = λ mutex held. holder_stays mutex u.name log (item v.name deed) (other.holds mutex held) takes.fits differ;
      once = other.once;
      parent = λ k p is. live_stays seat views id v w p (λ (x : View). Contains x.out k) at takes.live takes.named (takes.out k) (other.parent k p is);
    }

own_sits : (log : List Item) (seat : Name → ℕ) (views : List View) (id : ℕ) (v : View) (deed : Deed) (w : View) → At views id v → v.live ≡ true
    → Sits log seat views id v → Takes log v deed w → Sits (log ++ item v.name deed ∷ []) seat (set views id w) id w
own_sits log seat views id v deed w at live sits takes =
    let lives = sits.lives live in
    record {
      shown = λ name. ap (of name) takes.more ∙ shown_own seat id v.name deed log v.items name lives.sits (sits.shown name);
      lives = λ is. own_lives log seat views id v deed w at lives takes;
      rests = λ is. let no : true ≡ false = sym takes.live ∙ is in cc;
    }

other_sits : (log : List Item) (seat : Name → ℕ) (views : List View) (id : ℕ) (v : View) (deed : Deed) (w : View) (j : ℕ) (u : View) → At views id v
    → Lives log seat views id v → Takes log v deed w → Sits log seat views j u → (j ≡ id → ⊥) → Sits (log ++ item v.name deed ∷ []) seat (set views id w) j u
other_sits log seat views id v deed w j u at lives takes sits apart = record {
  shown = λ name. shown_other seat j v.name deed log u.items name (λ here. apart (sym here ∙ lives.sits)) (sits.shown name);
  lives = λ is. other_lives log seat views id v deed w j u at lives takes (sits.lives is) apart;
  rests = sits.rests;
}

pub advance : (elements : ℕ) (log : List Item) (seat : Name → ℕ) (words : List ℕ) (views : List View) (id : ℕ) (v : View) (deed : Deed) (w : View) (new : List ℕ)
    → Explains elements log seat words views → At views id v → v.live ≡ true → Takes log v deed w → length new ≡ length words
    → ((word : ℕ) → word < elements → get_or new (ELEMENTS + word) 0 ≡ value_after word deed (value_at word log))
    → ((mutex : ℕ) → mutex < MUTEXES → get_or new mutex 0 ≡ mutex_word (holder_after mutex v.name deed (holder mutex log)))
    → Explains elements (log ++ item v.name deed ∷ []) seat new (set views id w)
advance elements log seat words views id v deed w new keeps at live takes wide values mutexes =
    let sits = keeps.each id v at in
    let lives = sits.lives live in
    record {
      wide = wide ∙ keeps.wide;
      legal = legal_more log (item v.name deed) keeps.legal (record { out = lives.out; fits = takes.fits });
      values = λ word within. values word within ∙ sym (value_more word log (item v.name deed));
      mutexes = λ mutex within. mutexes mutex within ∙ ap mutex_word (sym (holder_more mutex log (item v.name deed)));
      owners = λ mutex name is. elim (takes.gains mutex name (sym (holder_more mutex log (item v.name deed)) ∙ is)) [
        | inl old ↦ live_stays seat views id v w name (λ (x : View). Contains x.held mutex) at takes.live takes.named old.1 (keeps.owners mutex name old.0)
        | inr new ↦
            let There : ℕ → Type 0 = λ j. At (set views id w) j w in
            record {
              view = w;
              there = subst There (sym (ap seat new.0 ∙ lives.sits)) (set_here views id w (at_within views id v at));
              live = takes.live;
              named = takes.named ∙ sym new.0;
              has = new.1;
            }
      ];
      unborn = unborn_more log (item v.name deed) lives.out keeps.unborn;
      seated = λ name. let within = keeps.seated name in omega (arith, length-set views id w);
      each = λ j u there. elim (at_set views id j w u there) [
        | inl here ↦
            let P : ℕ × View → Type 0 = λ z. Sits (log ++ item v.name deed ∷ []) seat (set views id w) z.0 z.1 in
            subst P (λ i. (sym here.0 i, here.1 i)) (own_sits log seat views id v deed w at live sits takes)
        | inr away ↦ other_sits log seat views id v deed w j u at lives takes (keeps.each j u away.1) away.0
      ];
    }
