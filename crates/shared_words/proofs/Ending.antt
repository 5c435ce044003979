-- Where only the first hand is left, its items have one history, which ends in the words.
use Rattle.std.proofs.Common.{◌≡◌, refl, sym, ap, ◌∙◌, subst, ℕ, ◌+◌, ◌<◌, Bool, true, false, cond, eq-eqb, List, [], ◌∷◌, length, get_or, arith}
use Rattle.std.specs.Prelude.{◌==◌, Contains}
use Rattle.atomic_table.specs.Table.{Final, Seen}
use Rattle.step_history.specs.declared.item.Item.{Item}
use Rattle.step_history.specs.History.{Name, of, HasHistory}
use Rattle.shared_words.specs.declared.view.View.{View}
use Rattle.shared_words.specs.Rule.{ELEMENTS, Lives, Explains, Kept}
use Rattle.shared_words.proofs.Seats.{At, at_some, same_at}

module _ (elements : ℕ) (log : List Item) (seat : Name → ℕ) (words : List ℕ) (views : List View) (keeps : Explains elements log seat words views)
    (id : ℕ) (v : View) (here : At views id v) (live : v.live ≡ true) (first : v.name ≡ []) (none_out : v.out ≡ []) where
  lives : Lives log seat views id v
  lives = (keeps.each id v here).lives live

  first_sits : seat [] ≡ id
  first_sits = ap seat (sym first) ∙ lives.sits

  -- no other hand is live
  only_first : (name : Name) (j : ℕ) (u : View) → At views j u → u.live ≡ true → u.name ≡ name → name ≡ []
  only_first [] j u there is_live named = refl
  only_first (k ∷ p) j u there is_live named =
      let parent = ((keeps.each j u there).lives is_live).parent k p named in
      let top : p ≡ [] = only_first p (seat p) parent.view parent.there parent.live parent.named in
      let P : ℕ → Type 0 = λ n. At views n parent.view in
      let same : parent.view ≡ v = same_at views id parent.view v (subst P (ap seat top ∙ first_sits) parent.there) here in
      let Q : List ℕ → Type 0 = λ ks. Contains ks k in
      let nowhere : Contains [] k = subst Q (ap (λ (x : View). x.out) same ∙ none_out) parent.has in
      let within = nowhere.1 in
      absurd (omega arith)

  at_first : (name : Name) (b : Bool) → (seat name == id) ≡ b → of name log ≡ [] → cond (seat name == id) (of name log) [] ≡ of name log
  at_first name true is nothing = ap (λ (b : Bool). cond b (of name log) []) is
  at_first name false is nothing = ap (λ (b : Bool). cond b (of name log) []) is ∙ sym nothing

  whole_at : (name : Name) (u : View) → At views (seat name) u → (b : Bool) → u.live ≡ b → of name log ≡ of name v.items
  whole_at name u there true is =
      let sits = ((keeps.each (seat name) u there).lives is).sits in
      let top : u.name ≡ [] = only_first u.name (seat name) u there is refl in
      let same : seat name ≡ id = sym sits ∙ (ap seat top ∙ first_sits) in
      sym ((keeps.each id v here).shown name ∙ ap (λ (b : Bool). cond b (of name log) []) (eq-eqb (seat name) id same))
  whole_at name u there false is =
      let sits = keeps.each (seat name) u there in
      let nothing : of name log ≡ [] =
      sym (sits.shown name ∙ ap (λ (b : Bool). cond b (of name log) []) (eq-eqb (seat name) (seat name) refl)) ∙ ap (of name) (sits.rests is) in
      sym ((keeps.each id v here).shown name ∙ at_first name (seat name == id) refl nothing)

  whole : (name : Name) → of name log ≡ of name v.items
  whole name =
      let there = at_some views (seat name) (keeps.seated name) in
      whole_at name there.0 there.1 there.0.live refl

-- the last words are those of the elements
pub ends : (elements id : ℕ) (v : View) (last values : List ℕ) (at_home : List (Unit {0})) → Final (Seen (Kept elements) id v) last at_home → v.live ≡ true → v.name ≡ [] → v.out ≡ []
    → length values ≡ elements → ((word : ℕ) → word < elements → get_or values word 0 ≡ get_or last (ELEMENTS + word) 0) → HasHistory v.items values
ends elements id v last values at_home (s, seen, same, slots, rest) live first none_out long copied =
    let kept = seen.0 in
    record {
      log = kept.log;
      legal = kept.keeps.legal;
      whole = whole elements kept.log kept.seat s.words s.views kept.keeps id v seen.1 live first none_out;
      ends = λ word within.
          let inside : word < elements = omega arith in
          copied word inside ∙ (ap (λ (ws : List ℕ). get_or ws (ELEMENTS + word) 0) (sym same) ∙ kept.keeps.values word inside);
    }
