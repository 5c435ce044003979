-- A homecoming keeps the rule: the names of the hand that comes home sit with the hand that it joins.
use Rattle.std.proofs.Common.{◌≡◌, refl, sym, ap, ap₂, ◌∙◌, subst, ℕ, ◌<◌, ◌≤◌, Bool, true, false, cond, eq-eqb, ne_eqb, eqb-true, List, [], ◌∷◌, ◌++◌, length, length-set, set, arith, inl, inr}
use Rattle.std.specs.Prelude.{◌==◌, ◌&&◌, ◌||◌, Contains}
use Rattle.std.proofs.lemmas.Bool.{false≢true}
use Rattle.std.proofs.lemmas.List.{append-nil}
use mathlib.Core.Logic.{dite}
use native.Mathlib.Decide.{ℕ_discrete}
use Rattle.atomic_table.specs.Table.{Joins}
use Rattle.atomic_table.proofs.Lists.{at_set, set_here, set_else}
use Rattle.step_history.specs.declared.item.Item.{Item}
use Rattle.step_history.specs.declared.item.Deed.TheVariants.{Home}
use Rattle.step_history.specs.History.{Name, name_eq, item, of, was_split, is_out, is_home}
use Rattle.step_history.proofs.Names.{same_name, is_same_name, other_name}
use Rattle.step_history.proofs.Folds.{of-append, value_more, holder_more, legal_more, out_stays, out_is_split, unborn_more, others_split, was_split_more, came_home_more}
use Rattle.shared_words.specs.declared.view.View.{View}
use Rattle.shared_words.specs.Views.{after_meeting, spent, split_number}
use Rattle.shared_words.specs.Rule.{mutex_word, HasLive, HasOut, Lives, Sits, Explains, Kept}
use Rattle.shared_words.proofs.Seats.{At, at_within, same_at, names_apart, shown_own, shown_other}
use Rattle.shared_words.proofs.Splitting.{not_itself}
use Rattle.shared_words.proofs.WordList.{contains_without}

-- the seats, where all names of one seat move to another
abbrev moved : (Name → ℕ) → ℕ → ℕ → Name → ℕ
moved seat from to name = cond (seat name == from) to (seat name)

moved_there : (seat : Name → ℕ) (from to : ℕ) (name : Name) → seat name ≡ from → moved seat from to name ≡ to
moved_there seat from to name here = ap (λ (b : Bool). cond b to (seat name)) (eq-eqb (seat name) from here)

not_moved : (seat : Name → ℕ) (from to : ℕ) (name : Name) → (seat name ≡ from → ⊥) → moved seat from to name ≡ seat name
not_moved seat from to name away = ap (λ (b : Bool). cond b to (seat name)) (ne_eqb (seat name) from away)

-- the hand in the seat `from` comes home to the one in the seat `id`
record Meeting (log : List Item) (seat : Name → ℕ) (views : List View) (id : ℕ) (v : View) (from : ℕ) (w : View) : Type 0 where
  at : At views id v
  live : v.live ≡ true
  lives : Lives log seat views id v
  from_at : At views from w
  comes : Lives log seat views from w
  apart : from ≡ id → ⊥
  child : w.name ≡ split_number w.name ∷ v.name
  none_out : w.out ≡ []
  holds_none : w.held ≡ []

module _ (log : List Item) (seat : Name → ℕ) (views : List View) (id : ℕ) (v : View) (from : ℕ) (w : View) (m : Meeting log seat views id v from w) where
  abbrev number : ℕ
  number = split_number w.name

  abbrev x : Item
  x = item v.name (Home number)

  abbrev after : List View
  after = set (set views id (after_meeting v w)) from spent

  own_stays : moved seat from id v.name ≡ id
  own_stays = not_moved seat from id v.name (λ same. m.apart (sym same ∙ m.lives.sits)) ∙ m.lives.sits

  met_there : At after id (after_meeting v w)
  met_there =
      set_else (set views id (after_meeting v w)) from id spent (λ same. m.apart (sym same))
      ∙ set_here views id (after_meeting v w) (at_within views id v m.at)

  was_number : was_split v.name number log ≡ true
  was_number = let P : Name → Type 0 = λ n. is_out n log ≡ true in out_is_split number v.name log (subst P m.child m.comes.out)

  -- what a live hand has it has still, but for the one that comes home
  live_moves : (q : Name) (P : View → Type 0) → HasLive seat views q P → (P w → ⊥) → (v.name ≡ q → P v → P (after_meeting v w)) → HasLive (moved seat from id) after q P
  live_moves q P has nothing keeps = dite (ℕ_discrete (seat q) from)
      (λ here.
      let Was : ℕ → Type 0 = λ j. At views j has.view in
      let same : has.view ≡ w = same_at views from has.view w (subst Was here has.there) m.from_at in
      absurd (nothing (subst P same has.has)))
      (λ away. dite (ℕ_discrete (seat q) id)
      (λ own.
      let Was : ℕ → Type 0 = λ j. At views j has.view in
      let There : ℕ → Type 0 = λ j. At after j (after_meeting v w) in
      let same : has.view ≡ v = same_at views id has.view v (subst Was own has.there) m.at in
      let named : v.name ≡ q = ap (λ (u : View). u.name) (sym same) ∙ has.named in
      record {
        view = after_meeting v w;
        there = subst There (sym (not_moved seat from id q away ∙ own)) met_there;
        live = m.live;
        named = named;
        has = keeps named (subst P same has.has);
      })
      (λ else.
      let There : ℕ → Type 0 = λ j. At after j has.view in
      record {
        view = has.view;
        there = subst There (sym (not_moved seat from id q away))
            (set_else (set views id (after_meeting v w)) from (seat q) spent away ∙ (set_else views id (seat q) (after_meeting v w) else ∙ has.there));
        live = has.live;
        named = has.named;
        has = has.has;
      }))

  nowhere : (ks : List ℕ) (k : ℕ) → ks ≡ [] → Contains ks k → ⊥
  nowhere ks k is has =
      let P : List ℕ → Type 0 = λ l. Contains l k in
      let none_left : Contains [] k = subst P is has in
      let within = none_left.1 in omega arith

  -- a hand that is out, but the one that comes home, is out still
  out_moves : (l : ℕ) (q : Name) → HasOut seat views l q → (l ∷ q ≡ w.name → ⊥) → HasOut (moved seat from id) after l q
  out_moves l q has differs = live_moves q (λ (u : View). Contains u.out l) has (nowhere w.out l m.none_out)
      (λ named out. contains_without number l v.out out (λ is. differs (ap₂ (λ (k : ℕ) (n : Name). k ∷ n) is (sym named) ∙ sym m.child)))

  both_shown : (name : Name) → of name v.items ≡ cond (seat name == id) (of name log) [] → of name w.items ≡ cond (seat name == from) (of name log) []
      → of name (v.items ++ w.items) ≡ cond (moved seat from id name == id) (of name log) []
  both_shown name one other =
      of-append name v.items w.items ∙ (ap₂ (λ (a b : List Item). a ++ b) one other ∙ dite (ℕ_discrete (seat name) from)
      (λ here.
      ap₂ (λ (a b : Bool). cond a (of name log) [] ++ cond b (of name log) [])
      (ne_eqb (seat name) id (λ own. m.apart (sym here ∙ own))) (eq-eqb (seat name) from here)
      ∙ ap (λ (b : Bool). cond b (of name log) []) (sym (eq-eqb (moved seat from id name) id (moved_there seat from id name here))))
      (λ away.
      ap (λ (b : Bool). cond (seat name == id) (of name log) [] ++ cond b (of name log) []) (ne_eqb (seat name) from away)
      ∙ (append-nil (cond (seat name == id) (of name log) [])
      ∙ ap (λ (n : ℕ). cond (n == id) (of name log) []) (sym (not_moved seat from id name away)))))

  met_lives : Lives (log ++ x ∷ []) (moved seat from id) after id (after_meeting v w)
  met_lives = record {
    sits = own_stays;
    out = out_stays v.name log x m.lives.out (λ k p is. never k p is);
    fresh = λ l late. (
      was_split_more v.name l log x ∙ (ap₂ (λ (a b : Bool). a || (b && false)) (m.lives.fresh l late).0 (is_same_name v.name)),
      came_home_more v.name l log x ∙ (ap₂ (λ (a b : Bool). a || (name_eq v.name v.name && b)) (m.lives.fresh l late).1 (ne_eqb number l (other_number l late)) ∙ never_true (name_eq v.name v.name)),
    );
    holds = λ mutex held. holder_more mutex log x ∙ m.lives.holds mutex held;
    once = m.lives.once;
    parent = λ k p is. out_moves k p (m.lives.parent k p is) (λ same. names_apart log seat views from id w v m.comes m.lives m.apart (sym (is ∙ same)));
  } where
    never_true : (b : Bool) → (false || (b && false)) ≡ false
    never_true true = refl
    never_true false = refl

    never : (k : ℕ) (p : Name) → v.name ≡ k ∷ p → (name_eq v.name p && is_home k (Home number)) ≡ false
    never k p is = ap (λ (b : Bool). b && (number == k)) (other_name v.name p (λ same. not_itself k p (sym same ∙ is)))

    other_number : (l : ℕ) → v.splits ≤ l → number ≡ l → ⊥
    other_number l late same =
        let P : ℕ → Type 0 = λ k. v.splits ≤ k in
        false≢true (sym (m.lives.fresh number (subst P (sym same) late)).0 ∙ was_number)

  met_sits : Sits log seat views id v → Sits log seat views from w → Sits (log ++ x ∷ []) (moved seat from id) after id (after_meeting v w)
  met_sits one other = record {
    shown = λ name. shown_own (moved seat from id) id v.name (Home number) log (v.items ++ w.items) name own_stays (both_shown name (one.shown name) (other.shown name));
    lives = λ live. met_lives;
    rests = λ dead. absurd (false≢true (sym dead ∙ m.live));
  }

  spent_sits : Sits (log ++ x ∷ []) (moved seat from id) after from spent
  spent_sits = record {
    shown = λ name. ap (λ (b : Bool). cond b (of name (log ++ x ∷ [])) []) (sym (ne_eqb (moved seat from id name) from (empty name)));
    lives = λ live. absurd (false≢true live);
    rests = λ dead. refl;
  } where
    empty : (name : Name) → moved seat from id name ≡ from → ⊥
    empty name same = dite (ℕ_discrete (seat name) from)
        (λ here. m.apart (sym same ∙ moved_there seat from id name here))
        (λ away. away (sym (not_moved seat from id name away) ∙ same))

  old_lives : (j : ℕ) (u : View) → Lives log seat views j u → (j ≡ id → ⊥) → (j ≡ from → ⊥) → Lives (log ++ x ∷ []) (moved seat from id) after j u
  old_lives j u lives not_id not_from = record {
    sits = not_moved seat from id u.name (λ same. not_from (sym lives.sits ∙ same)) ∙ lives.sits;
    out = out_stays u.name log x lives.out (λ k p is. at k p is (name_eq v.name p) (number == k) refl refl);
    fresh = λ l late.
        let stays = others_split u.name l log x (λ same. names_apart log seat views j id u v lives m.lives not_id (sym same)) in
        let old = lives.fresh l late in
        (stays.0 ∙ old.0, stays.1 ∙ old.1);
    holds = λ mutex held. holder_more mutex log x ∙ lives.holds mutex held;
    once = lives.once;
    parent = λ k p is. out_moves k p (lives.parent k p is) (λ same. not_w (is ∙ same));
  } where
    not_w : u.name ≡ w.name → ⊥
    not_w same = names_apart log seat views j from u w lives m.comes not_from same

    at : (k : ℕ) (p : Name) → u.name ≡ k ∷ p → (a b : Bool) → name_eq v.name p ≡ a → (number == k) ≡ b → (name_eq v.name p && (number == k)) ≡ false
    at k p is true true one other =
        absurd (not_w (is ∙ (ap₂ (λ (l : ℕ) (n : Name). l ∷ n) (sym (eqb-true number k other)) (sym (same_name v.name p one)) ∙ sym m.child)))
    at k p is true false one other = ap₂ (λ (a b : Bool). a && b) one other
    at k p is false b one other = ap (λ (a : Bool). a && (number == k)) one

  old_sits : (j : ℕ) (u : View) → Sits log seat views j u → (j ≡ id → ⊥) → (j ≡ from → ⊥) → Sits (log ++ x ∷ []) (moved seat from id) after j u
  old_sits j u sits not_id not_from = record {
    shown = λ name. shown_other (moved seat from id) j v.name (Home number) log u.items name (λ here. not_id (sym here ∙ own_stays)) (sits.shown name ∙ same name);
    lives = λ live. old_lives j u (sits.lives live) not_id not_from;
    rests = sits.rests;
  } where
    same : (name : Name) → cond (seat name == j) (of name log) [] ≡ cond (moved seat from id name == j) (of name log) []
    same name = dite (ℕ_discrete (seat name) from)
        (λ here.
        ap (λ (b : Bool). cond b (of name log) []) (ne_eqb (seat name) j (λ is. not_from (sym is ∙ here)))
        ∙ ap (λ (b : Bool). cond b (of name log) []) (sym (ne_eqb (moved seat from id name) j (λ is. not_id (sym is ∙ moved_there seat from id name here)))))
        (λ away. ap (λ (n : ℕ). cond (n == j) (of name log) []) (sym (not_moved seat from id name away)))

  meets : (elements : ℕ) (words : List ℕ) → Explains elements log seat words views → Explains elements (log ++ x ∷ []) (moved seat from id) words after
  meets elements words keeps = record {
    wide = keeps.wide;
    legal = legal_more log x keeps.legal (record { out = m.lives.out; fits = let P : Name → Type 0 = λ n. is_out n log ≡ true in subst P m.child m.comes.out });
    values = λ word within. keeps.values word within ∙ sym (value_more word log x);
    mutexes = λ mutex within. keeps.mutexes mutex within ∙ ap mutex_word (sym (holder_more mutex log x));
    owners = λ mutex name is. live_moves name (λ (u : View). Contains u.held mutex) (keeps.owners mutex name (sym (holder_more mutex log x) ∙ is))
        (nowhere w.held mutex m.holds_none) (λ named held. held);
    unborn = unborn_more log x m.lives.out keeps.unborn;
    seated = λ name. at name (seat name == from);
    each = λ j u there. elim (at_set (set views id (after_meeting v w)) from j spent u there) [
      | inl here ↦
          let P : ℕ × View → Type 0 = λ z. Sits (log ++ x ∷ []) (moved seat from id) after z.0 z.1 in
          subst P (λ i. (sym here.0 i, here.1 i)) spent_sits
      | inr away ↦ elim (at_set views id j (after_meeting v w) u away.1) [
        | inl here ↦
            let P : ℕ × View → Type 0 = λ z. Sits (log ++ x ∷ []) (moved seat from id) after z.0 z.1 in
            subst P (λ i. (sym here.0 i, here.1 i)) (met_sits (keeps.each id v m.at) (keeps.each from w m.from_at))
        | inr old ↦ old_sits j u (keeps.each j u old.1) old.0 away.0
      ]
    ];
  } where
    long : length after ≡ length views
    long = length-set (set views id (after_meeting v w)) from spent ∙ length-set views id (after_meeting v w)

    at : (name : Name) (b : Bool) → cond b id (seat name) < length after
    at name true = let within = at_within views id v m.at in let same = long in omega arith
    at name false = let within = keeps.seated name in let same = long in omega arith

pub joins_allowed : (elements id : ℕ) (v : View) (from : ℕ) (w : View) → v.live ≡ true → w.live ≡ true → w.name ≡ split_number w.name ∷ v.name → w.out ≡ [] → w.held ≡ []
    → Joins (Kept elements) id v from w (after_meeting v w) spent
joins_allowed elements id v from w live other_live child none_out holds_none s kept at apart other_at =
    let from_at : At s.views from w = sym (set_else s.views id from (after_meeting v w) apart) ∙ other_at in
    let m : Meeting kept.log kept.seat s.views id v from w = record {
      at = at;
      live = live;
      lives = (kept.keeps.each id v at).lives live;
      from_at = from_at;
      comes = (kept.keeps.each from w from_at).lives other_live;
      apart = apart;
      child = child;
      none_out = none_out;
      holds_none = holds_none;
    } in
    record {
      log = kept.log ++ item v.name (Home (split_number w.name)) ∷ [];
      seat = moved kept.seat from id;
      keeps = meets kept.log kept.seat s.views id v from w m elements s.words kept.keeps;
    }
