-- Each step on the words keeps the rule, and tells what it did.
use Rattle.std.proofs.Common.{◌≡◌, ◌⊎◌, refl, sym, ap, ◌∙◌, subst, ℕ, ◌+◌, ◌-◌, ◌%◌, ◌^◌, ◌<◌, Bool, true, false, cond, List, [], ◌∷◌, ◌++◌, length-set, get_or, set, eq-eqb, ne_eqb, eqb-true, Option, Some, None, arith, inl, inr}
use Rattle.std.specs.Prelude.{◌==◌, Contains}
use Rattle.std.proofs.lemmas.Bool.{eqb-false}
use Rattle.std.proofs.lemmas.List.{set-get_or}
use mathlib.Core.Logic.{dite}
use mathlib.Core.Option.{none}
use native.Mathlib.Decide.{ℕ_discrete}
use prog.Atomic.{either}
use Rattle.atomic_table.specs.Table.{State, Me, step, keeps, Allows}
use Rattle.atomic_table.proofs.Lists.{at_set, set_again}
use Rattle.step_history.specs.declared.item.Item.{Item}
use Rattle.step_history.specs.declared.item.Deed.{Deed}
use Rattle.step_history.specs.declared.item.Deed.TheVariants.{Read, Write, Lock, Unlock, Update}
use Rattle.step_history.specs.History.{Name, item, value_at, value_after, holder, holder_after}
use Rattle.shared_words.specs.declared.view.View.{View}
use Rattle.shared_words.specs.Views.{did, locked, unlocked, announced, rest}
use Rattle.shared_words.specs.Rule.{ELEMENTS, MUTEXES, FREE, mutex_word, Once, Lives, Sits, Explains, Kept}
use Rattle.shared_words.specs.Steps.{loads, stores, updates, Locking, unlocks, announces}
use Rattle.shared_words.proofs.Seats.{At, live_stays}
use Rattle.shared_words.proofs.Advance.{Takes, advance}
use Rattle.shared_words.proofs.WordList.{word_else, word_here, here_or_later, contains_here, contains_later}

abbrev Seen : Type 0
Seen = Me (Unit {0}) View

abbrev St : Type 0
St = State (Unit {0}) View

element_of : (word : ℕ) → ELEMENTS + word - ELEMENTS ≡ word
element_of word = omega arith

-- a step that leaves the hand's mutexes and splits alone
plain_takes : (log : List Item) (seat : Name → ℕ) (views : List View) (id : ℕ) (v : View) (deed : Deed) → Lives log seat views id v → v.live ≡ true
    → Rattle.step_history.specs.History.FitsDeed log v.name deed
    → ((k : ℕ) → (Rattle.step_history.specs.History.is_split k deed ≡ false) × (Rattle.step_history.specs.History.is_home k deed ≡ false))
    → ((mutex : ℕ) → holder_after mutex v.name deed (holder mutex log) ≡ holder mutex log)
    → Takes log v deed (did v deed)
plain_takes log seat views id v deed lives live fits plain same = record {
  named = refl;
  live = live;
  more = refl;
  fits = fits;
  no_home = λ k. (plain k).1;
  fresh = λ k late. (late, (plain k).0);
  holds = λ mutex held. same mutex ∙ lives.holds mutex held;
  once = lives.once;
  out = λ k is. is;
  gains = λ mutex name is. inl (sym (same mutex) ∙ is, λ held. held);
}

pub loads_allowed : (elements slots id : ℕ) (me : Seen) (word : ℕ) → me.0.live ≡ true → word < elements
    → Allows (Kept elements) slots id me (ELEMENTS + word) (λ n. n) (loads (step slots (ELEMENTS + word) 0 0 none) me)
loads_allowed elements slots id me word live within s kept same_slots at small =
    let found : ℕ = get_or s.words (ELEMENTS + word) 0 in
    let v : View = me.0 in
    let lives = (kept.keeps.each id v at).lives live in
    let takes : Takes kept.log v (Read word found) (did v (Read word found)) =
    plain_takes kept.log kept.seat s.views id v (Read word found) lives live (kept.keeps.values word within) (λ k. (refl, refl)) (λ mutex. refl) in
    let words = set-get_or s.words (ELEMENTS + word) 0 in (
      did v (Read word found),
      keeps,
      tt,
      record {
        log = kept.log ++ item v.name (Read word found) ∷ [];
        seat = kept.seat;
        keeps = advance elements kept.log kept.seat s.words s.views id v (Read word found) (did v (Read word found)) (set s.words (ELEMENTS + word) found)
            kept.keeps at live takes (length-set s.words (ELEMENTS + word) found)
            (λ w inside. ap (λ (ws : List ℕ). get_or ws (ELEMENTS + w) 0) words ∙ kept.keeps.values w inside)
            (λ mutex inside. ap (λ (ws : List ℕ). get_or ws mutex 0) words ∙ kept.keeps.mutexes mutex inside);
      },
      ap (λ (k : ℕ). (did v (Read k found), me.1)) (sym (element_of word)),
    )

-- a deed that changes one element, by a function of its value
changes_element : (elements id : ℕ) (v : View) (word : ℕ) (f : ℕ → ℕ) (deed : Deed) (s : St) → v.live ≡ true → word < elements → Kept elements s → At s.views id v
    → ((log : List Item) → Rattle.step_history.specs.History.FitsDeed log v.name deed)
    → ((k : ℕ) → (Rattle.step_history.specs.History.is_split k deed ≡ false) × (Rattle.step_history.specs.History.is_home k deed ≡ false))
    → ((mutex : ℕ) (owner : Option Name) → holder_after mutex v.name deed owner ≡ owner)
    → ((w x : ℕ) → value_after w deed x ≡ cond (word == w) (f x) x)
    → Kept elements (record { words = set s.words (ELEMENTS + word) (f (get_or s.words (ELEMENTS + word) 0)); homes = s.homes; views = set s.views id (did v deed) })
changes_element elements id v word f deed s live within kept at fits plain same changes =
    let log : List Item = kept.log in
    let new : ℕ = f (get_or s.words (ELEMENTS + word) 0) in
    let lives = (kept.keeps.each id v at).lives live in
    let takes : Takes kept.log v deed (did v deed) =
    plain_takes kept.log kept.seat s.views id v deed lives live (fits kept.log) plain (λ mutex. same mutex (holder mutex kept.log)) in
    let long = kept.keeps.wide in
    record {
      log = kept.log ++ item v.name deed ∷ [];
      seat = kept.seat;
      keeps = advance elements kept.log kept.seat s.words s.views id v deed (did v deed) (set s.words (ELEMENTS + word) new)
          kept.keeps at live takes (length-set s.words (ELEMENTS + word) new)
          (λ w inside. dite (ℕ_discrete word w)
          (λ here. word_here s.words (ELEMENTS + word) (ELEMENTS + w) new (omega arith) (omega arith)
          ∙ (ap f (kept.keeps.values word within ∙ ap (λ (k : ℕ). value_at k log) here)
          ∙ (ap (λ (b : Bool). cond b (f (value_at w log)) (value_at w log)) (sym (eq-eqb word w here)) ∙ sym (changes w (value_at w log)))))
          (λ apart. word_else s.words (ELEMENTS + word) (ELEMENTS + w) new (omega arith)
          ∙ (kept.keeps.values w inside
          ∙ (ap (λ (b : Bool). cond b (f (value_at w log)) (value_at w log)) (sym (ne_eqb word w apart)) ∙ sym (changes w (value_at w log))))))
          (λ mutex inside. word_else s.words (ELEMENTS + word) mutex new (omega arith)
          ∙ (kept.keeps.mutexes mutex inside ∙ ap mutex_word (sym (same mutex (holder mutex log)))));
    }

pub stores_allowed : (elements slots id : ℕ) (me : Seen) (word value : ℕ) → me.0.live ≡ true → word < elements
    → Allows (Kept elements) slots id me (ELEMENTS + word) (λ _. value) (λ _. stores (step slots (ELEMENTS + word) value 0 none) me value)
stores_allowed elements slots id me word value live within s kept same_slots at small = (
  did me.0 (Write word value),
  keeps,
  tt,
  changes_element elements id me.0 word (λ _. value) (Write word value) s live within kept at (λ log. tt) (λ k. (refl, refl)) (λ mutex owner. refl) (λ w x. refl),
  ap (λ (k : ℕ). (did me.0 (Write k value), me.1)) (sym (element_of word)),
)

pub updates_allowed : (elements slots id : ℕ) (me : Seen) (word amount : ℕ) → me.0.live ≡ true → word < elements
    → Allows (Kept elements) slots id me (ELEMENTS + word) (λ n. (n + amount) % 2 ^ 64) (updates (step slots (ELEMENTS + word) amount 0 none) me)
updates_allowed elements slots id me word amount live within s kept same_slots at small = (
  did me.0 (Update word amount),
  keeps,
  tt,
  changes_element elements id me.0 word (λ n. (n + amount) % 2 ^ 64) (Update word amount) s live within kept at (λ log. tt) (λ k. (refl, refl)) (λ mutex owner. refl)
      (λ w x. refl),
  ap (λ (k : ℕ). (did me.0 (Update k amount), me.1)) (sym (element_of word)),
)

free_mutex : (owner : Option Name) → mutex_word owner ≡ 0 → owner ≡ None
free_mutex None is = refl
free_mutex (Some name) is = cc

-- a step that finds the word as it was, and changes no view
unmoved : (elements id : ℕ) (me : Seen) (i : ℕ) (s : St) → Kept elements s → At s.views id me.0
    → Kept elements (record { words = set s.words i (get_or s.words i 0); homes = s.homes; views = set s.views id me.0 })
unmoved elements id me i s kept at = record {
  log = kept.log;
  seat = kept.seat;
  keeps =
      let P : List ℕ × List View → Type 0 = λ z. Explains elements kept.log kept.seat z.0 z.1 in
      subst P (λ k. (sym (set-get_or s.words i 0) k, sym (set_again s.views id me.0 at) k)) kept.keeps;
}

one_name : (m n : Name) → Some m ≡ Some n → m ≡ n
one_name m n same = cc

lock_takes : (log : List Item) (seat : Name → ℕ) (views : List View) (id : ℕ) (v : View) (mutex : ℕ) → Lives log seat views id v → v.live ≡ true
    → holder mutex log ≡ None → Takes log v (Lock mutex) (locked v mutex)
lock_takes log seat views id v mutex lives live nobody = record {
  named = refl;
  live = live;
  more = refl;
  fits = nobody;
  no_home = λ k. refl;
  fresh = λ k late. (late, refl);
  holds = λ m held. at m (mutex == m) refl held;
  once = (λ held. let no : Some v.name ≡ None = sym (lives.holds mutex held) ∙ nobody in cc, lives.once);
  out = λ k is. is;
  gains = λ m name is. gains m name (mutex == m) refl is;
} where
  gains : (m : ℕ) (name : Name) (b : Bool) → (mutex == m) ≡ b → cond (mutex == m) (Some v.name) (holder m log) ≡ Some name
      → ((holder m log ≡ Some name) × (Contains v.held m → Contains (mutex ∷ v.held) m)) ⊎ ((name ≡ v.name) × Contains (mutex ∷ v.held) m)
  gains m name true same is =
      let P : ℕ → Type 0 = λ k. Contains (mutex ∷ v.held) k in
      let mine : Some v.name ≡ Some name = ap (λ (b : Bool). cond b (Some v.name) (holder m log)) (sym same) ∙ is in
      inr (one_name name v.name (sym mine), subst P (eqb-true mutex m same) (contains_here mutex v.held))
  gains m name false apart is =
      inl (ap (λ (b : Bool). cond b (Some v.name) (holder m log)) (sym apart) ∙ is, λ held. contains_later mutex m v.held held)

  at : (m : ℕ) (b : Bool) → (mutex == m) ≡ b → Contains (mutex ∷ v.held) m → cond (mutex == m) (Some v.name) (holder m log) ≡ Some v.name
  at m true is held = ap (λ (b : Bool). cond b (Some v.name) (holder m log)) is
  at m false is held =
      ap (λ (b : Bool). cond b (Some v.name) (holder m log)) is ∙ lives.holds m (here_or_later mutex m v.held held (eqb-false mutex m is))

lock_wins : (elements id : ℕ) (v : View) (mutex : ℕ) (s : St) → v.live ≡ true → mutex < MUTEXES → Kept elements s → At s.views id v → get_or s.words mutex 0 ≡ 0
    → Kept elements (record { words = set s.words mutex 1; homes = s.homes; views = set s.views id (locked v mutex) })
lock_wins elements id v mutex s live within kept at unheld =
    let lives = (kept.keeps.each id v at).lives live in
    let nobody : holder mutex kept.log ≡ None = free_mutex (holder mutex kept.log) (sym (kept.keeps.mutexes mutex within) ∙ unheld) in
    let long = kept.keeps.wide in
    record {
      log = kept.log ++ item v.name (Lock mutex) ∷ [];
      seat = kept.seat;
      keeps = advance elements kept.log kept.seat s.words s.views id v (Lock mutex) (locked v mutex) (set s.words mutex 1)
          kept.keeps at live (lock_takes kept.log kept.seat s.views id v mutex lives live nobody) (length-set s.words mutex 1)
          (λ w inside. word_else s.words mutex (ELEMENTS + w) 1 (omega arith) ∙ kept.keeps.values w inside)
          (λ m inside. dite (ℕ_discrete mutex m)
          (λ here. word_here s.words mutex m 1 here (omega arith) ∙ ap (λ (b : Bool). mutex_word (cond b (Some v.name) (holder m kept.log))) (sym (eq-eqb mutex m here)))
          (λ apart. word_else s.words mutex m 1 apart
          ∙ (kept.keeps.mutexes m inside ∙ ap (λ (b : Bool). mutex_word (cond b (Some v.name) (holder m kept.log))) (sym (ne_eqb mutex m apart)))));
    }

pub locks_allowed : (elements slots id : ℕ) (me : Seen) (mutex : ℕ) → me.0.live ≡ true → mutex < MUTEXES
    → Allows (Kept elements) slots id me mutex (λ n. either (n == 0) 1 n) (Locking (step slots mutex 0 1 none) me)
locks_allowed elements slots id me mutex live within s kept same_slots at small =
    let found : ℕ = get_or s.words mutex 0 in
    dite (ℕ_discrete found 0)
    (λ free. (
      locked me.0 mutex,
      keeps,
      tt,
      subst (λ (b : Bool). Kept elements (record { words = set s.words mutex (either b 1 found); homes = s.homes; views = set s.views id (locked me.0 mutex) }))
          (sym (eq-eqb found 0 free)) (lock_wins elements id me.0 mutex s live within kept at free),
      record { won = λ _. refl; lost = λ not. absurd (not free) },
    ))
    (λ taken. (
      me.0,
      keeps,
      tt,
      subst (λ (b : Bool). Kept elements (record { words = set s.words mutex (either b 1 found); homes = s.homes; views = set s.views id me.0 }))
          (sym (ne_eqb found 0 taken)) (unmoved elements id me mutex s kept at),
      record { won = λ is. absurd (taken is); lost = λ _. refl },
    ))

once_rest : (held : List ℕ) → Once held → Once (rest held)
once_rest [] once = tt
once_rest (k ∷ ks) once = once.1

rest_later : (held : List ℕ) (m : ℕ) → Contains (rest held) m → Contains held m
rest_later [] m is = is
rest_later (k ∷ ks) m is = contains_later k m ks is

unlock_takes : (log : List Item) (seat : Name → ℕ) (views : List View) (id : ℕ) (v : View) (mutex : ℕ) → Lives log seat views id v → v.live ≡ true
    → v.held ≡ mutex ∷ rest v.held → Takes log v (Unlock mutex) (unlocked v mutex)
unlock_takes log seat views id v mutex lives live innermost = record {
  named = refl;
  live = live;
  more = refl;
  fits = lives.holds mutex (subst Has (sym innermost) (contains_here mutex (rest v.held)));
  no_home = λ k. refl;
  fresh = λ k late. (late, refl);
  holds = λ m held. at m (mutex == m) refl held;
  once = once_rest v.held lives.once;
  out = λ k is. is;
  gains = λ m name is. gains m name (mutex == m) refl is;
} where
  after_first : (held : List ℕ) (m : ℕ) → held ≡ mutex ∷ rest held → (mutex ≡ m → ⊥) → Contains held m → Contains (rest held) m
  after_first held m first apart has =
      let P : List ℕ → Type 0 = λ ks. Contains ks m in
      here_or_later mutex m (rest held) (subst P first has) apart

  gains : (m : ℕ) (name : Name) (b : Bool) → (mutex == m) ≡ b → cond (mutex == m) None (holder m log) ≡ Some name
      → ((holder m log ≡ Some name) × (Contains v.held m → Contains (rest v.held) m)) ⊎ ((name ≡ v.name) × Contains (rest v.held) m)
  gains m name true same is =
      let nobody : None ≡ Some name = ap (λ (b : Bool). cond b None (holder m log)) (sym same) ∙ is in cc
  gains m name false apart is =
      inl (ap (λ (b : Bool). cond b None (holder m log)) (sym apart) ∙ is, after_first v.held m innermost (eqb-false mutex m apart))

  Has : List ℕ → Type 0
  Has held = Contains held mutex

  once : Once (mutex ∷ rest v.held)
  once = let P : List ℕ → Type 0 = Once in subst P innermost lives.once

  at : (m : ℕ) (b : Bool) → (mutex == m) ≡ b → Contains (rest v.held) m → cond (mutex == m) None (holder m log) ≡ Some v.name
  at m true is held = let P : ℕ → Type 0 = λ k. Contains (rest v.held) k in absurd (once.0 (subst P (sym (eqb-true mutex m is)) held))
  at m false is held = ap (λ (b : Bool). cond b None (holder m log)) is ∙ lives.holds m (rest_later v.held m held)

pub unlocks_allowed : (elements slots id : ℕ) (me : Seen) (mutex : ℕ) → me.0.live ≡ true → mutex < MUTEXES → me.0.held ≡ mutex ∷ rest me.0.held
    → Allows (Kept elements) slots id me mutex (λ _. 0) (λ _. unlocks (step slots mutex 0 0 none) me 0)
unlocks_allowed elements slots id me mutex live within innermost s kept same_slots at small =
    let v : View = me.0 in
    let lives = (kept.keeps.each id v at).lives live in
    let long = kept.keeps.wide in (
      unlocked v mutex,
      keeps,
      tt,
      record {
        log = kept.log ++ item v.name (Unlock mutex) ∷ [];
        seat = kept.seat;
        keeps = advance elements kept.log kept.seat s.words s.views id v (Unlock mutex) (unlocked v mutex) (set s.words mutex 0)
            kept.keeps at live (unlock_takes kept.log kept.seat s.views id v mutex lives live innermost) (length-set s.words mutex 0)
            (λ w inside. word_else s.words mutex (ELEMENTS + w) 0 (omega arith) ∙ kept.keeps.values w inside)
            (λ m inside. dite (ℕ_discrete mutex m)
            (λ here. word_here s.words mutex m 0 here (omega arith) ∙ ap (λ (b : Bool). mutex_word (cond b None (holder m kept.log))) (sym (eq-eqb mutex m here)))
            (λ apart. word_else s.words mutex m 0 apart
            ∙ (kept.keeps.mutexes m inside ∙ ap (λ (b : Bool). mutex_word (cond b None (holder m kept.log))) (sym (ne_eqb mutex m apart)))));
      },
      refl,
    )

-- an announcement is a step of no history
announced_lives : (log : List Item) (seat : Name → ℕ) (views : List View) (id : ℕ) (v w : View) (j : ℕ) (u : View) → At views id v → w.live ≡ true → w.name ≡ v.name
    → w.out ≡ v.out → Lives log seat views j u → Lives log seat (set views id w) j u
announced_lives log seat views id v w j u at live named out lives = record {
  sits = lives.sits;
  out = lives.out;
  fresh = lives.fresh;
  holds = lives.holds;
  once = lives.once;
  parent = λ k p is. live_stays seat views id v w p (λ (x : View). Contains x.out k) at live named (let P : List ℕ → Type 0 = λ l. Contains l k in subst P (sym out)) (lives.parent k p is);
}

pub announces_allowed : (elements slots id : ℕ) (me : Seen) (lane span : ℕ) → me.0.live ≡ true
    → Allows (Kept elements) slots id me FREE (λ n. either (n == lane) span n) (announces (step slots FREE lane span none) me)
announces_allowed elements slots id me lane span live s kept same_slots at small =
    let v : View = me.0 in
    let w : View = announced v lane span in
    let found : ℕ = get_or s.words FREE 0 in
    let new : ℕ = either (found == lane) span found in (
      w,
      keeps,
      tt,
      record {
        log = kept.log;
        seat = kept.seat;
        keeps = record {
          wide = length-set s.words FREE new ∙ kept.keeps.wide;
          legal = kept.keeps.legal;
          values = λ word inside. word_else s.words FREE (ELEMENTS + word) new (omega arith) ∙ kept.keeps.values word inside;
          mutexes = λ mutex inside. word_else s.words FREE mutex new (omega arith) ∙ kept.keeps.mutexes mutex inside;
          owners = λ mutex name is. live_stays kept.seat s.views id v w name (λ (x : View). Contains x.held mutex) at live refl (λ held. held) (kept.keeps.owners mutex name is);
          unborn = kept.keeps.unborn;
          seated = λ name. let within = kept.keeps.seated name in omega (arith, length-set s.views id w);
          each = λ j u there. elim (at_set s.views id j w u there) [
            | inl here ↦
                let P : ℕ × View → Type 0 = λ z. Sits kept.log kept.seat (set s.views id w) z.0 z.1 in
                let old = kept.keeps.each id v at in
                subst P (λ i. (sym here.0 i, here.1 i)) (record {
                  shown = old.shown;
                  lives = λ is.
                      let lives = old.lives live in
                      let now = announced_lives kept.log kept.seat s.views id v w id v at live refl refl lives in
                      record { sits = now.sits; out = now.out; fresh = now.fresh; holds = now.holds; once = now.once; parent = now.parent };
                  rests = old.rests;
                })
            | inr away ↦
                let old = kept.keeps.each j u away.1 in
                record {
                  shown = old.shown;
                  lives = λ is. announced_lives kept.log kept.seat s.views id v w j u at live refl refl (old.lives is);
                  rests = old.rests;
                }
          ];
        };
      },
      refl,
    )
