-- A split keeps the rule: the hand that splits takes a step, and a new seat gets the new name.
use Rattle.std.proofs.Common.{◌≡◌, refl, sym, ap, ap₂, ◌∙◌, subst, ℕ, ◌<◌, Bool, true, false, cond, eq-eqb, ne_eqb, List, [], ◌∷◌, ◌++◌, length, length-append, set, arith, inl, inr}
use Rattle.std.specs.Prelude.{Contains, ◌==◌, ◌&&◌}
use Rattle.std.proofs.lemmas.Bool.{false≢true}
use Rattle.atomic_table.specs.Table.{Splits}
use Rattle.atomic_table.proofs.Lists.{at_set, at_last, at_longer}
use Rattle.step_history.specs.declared.item.Item.{Item}
use Rattle.step_history.specs.declared.item.Deed.TheVariants.{Split}
use Rattle.step_history.specs.History.{Name, name_eq, item, of, is_out}
use Rattle.step_history.proofs.Names.{same_name, is_same_name, other_name, apart_names}
use Rattle.step_history.proofs.Folds.{of-append, of_other, out_is_split, out_at_split, nothing_split}
use Rattle.shared_words.specs.declared.view.View.{View}
use Rattle.shared_words.specs.Views.{newcomer, child}
use Rattle.shared_words.specs.Steps.{parts}
use Rattle.shared_words.specs.Rule.{HasLive, HasOut, Lives, Sits, Explains, Kept}
use Rattle.shared_words.proofs.Seats.{At, at_within}
use Rattle.shared_words.proofs.Advance.{Takes, advance}
use Rattle.shared_words.proofs.Views.{at_end}
use Rattle.shared_words.proofs.WordList.{contains_here, contains_later}

-- the seats, where the name c sits in the seat n
abbrev seated_at : (Name → ℕ) → Name → ℕ → Name → ℕ
seated_at seat c n name = cond (name_eq name c) n (seat name)

seated_there : (seat : Name → ℕ) (c : Name) (n : ℕ) → seated_at seat c n c ≡ n
seated_there seat c n = ap (λ (b : Bool). cond b n (seat c)) (is_same_name c)

seated_before : (seat : Name → ℕ) (c : Name) (n : ℕ) (name : Name) → (name ≡ c → ⊥) → seated_at seat c n name ≡ seat name
seated_before seat c n name apart = ap (λ (b : Bool). cond b n (seat name)) (other_name name c apart)

-- what a seat owes where a new hand with the name k ∷ p gets the next seat
record Adopts (log : List Item) (seat : Name → ℕ) (views : List View) (k : ℕ) (p : Name) : Type 0 where
  pub out : is_out (k ∷ p) log ≡ true
  pub nothing : of (k ∷ p) log ≡ []
  pub parent : HasOut seat views k p
  pub new : (j : ℕ) (u : View) → At views j u → u.live ≡ true → u.name ≡ k ∷ p → ⊥

-- live hands sit where they sat
still_live : (log : List Item) (seat : Name → ℕ) (views : List View) (k : ℕ) (p : Name) (w : View) (q : Name) (P : View → Type 0) → Adopts log seat views k p
    → HasLive seat views q P → HasLive (seated_at seat (k ∷ p) (length views)) (views ++ w ∷ []) q P
still_live log seat views k p w q P adopts has =
    let apart : q ≡ k ∷ p → ⊥ = λ same. adopts.new (seat q) has.view has.there has.live (has.named ∙ same) in
    let There : ℕ → Type 0 = λ j. At (views ++ w ∷ []) j has.view in
    record {
      view = has.view;
      there = subst There (sym (seated_before seat (k ∷ p) (length views) q apart)) (at_longer views (w ∷ []) (seat q) has.view has.there);
      live = has.live;
      named = has.named;
      has = has.has;
    }

old_shown : (elements : ℕ) (log : List Item) (seat : Name → ℕ) (words : List ℕ) (views : List View) (k : ℕ) (p : Name) (j : ℕ) (u : View) (name : Name)
    → Adopts log seat views k p → At views j u
    → of name u.items ≡ cond (seat name == j) (of name log) []
    → of name u.items ≡ cond (seated_at seat (k ∷ p) (length views) name == j) (of name log) []
old_shown elements log seat words views k p j u name adopts there shown = at (name_eq name (k ∷ p)) refl
  where
    nothing : (b : Bool) (xs : List Item) → xs ≡ [] → cond b xs [] ≡ []
    nothing true xs is = is
    nothing false xs is = refl

    at : (b : Bool) → name_eq name (k ∷ p) ≡ b → of name u.items ≡ cond (seated_at seat (k ∷ p) (length views) name == j) (of name log) []
    at true is =
        let P : Name → Type 0 = λ n. of n log ≡ [] in
        let none_done : of name log ≡ [] = subst P (sym (same_name name (k ∷ p) is)) adopts.nothing in
        shown ∙ (nothing (seat name == j) (of name log) none_done ∙ sym (nothing (seated_at seat (k ∷ p) (length views) name == j) (of name log) none_done))
    at false is = shown ∙ ap (λ (n : ℕ). cond (n == j) (of name log) []) (sym (seated_before seat (k ∷ p) (length views) name (apart_names name (k ∷ p) is)))

old_sits : (elements : ℕ) (log : List Item) (seat : Name → ℕ) (words : List ℕ) (views : List View) (k : ℕ) (p : Name) (w : View) (j : ℕ) (u : View)
    → Adopts log seat views k p → At views j u → Sits log seat views j u → Sits log (seated_at seat (k ∷ p) (length views)) (views ++ w ∷ []) j u
old_sits elements log seat words views k p w j u adopts there sits = record {
  shown = λ name. old_shown elements log seat words views k p j u name adopts there (sits.shown name);
  lives = λ live.
      let lives = sits.lives live in
      record {
        sits = seated_before seat (k ∷ p) (length views) u.name (adopts.new j u there live) ∙ lives.sits;
        out = lives.out;
        fresh = lives.fresh;
        holds = lives.holds;
        once = lives.once;
        parent = λ l q is. still_live log seat views k p w q (λ (x : View). Contains x.out l) adopts (lives.parent l q is);
      };
  rests = sits.rests;
}

new_sits : (log : List Item) (seat : Name → ℕ) (views : List View) (k : ℕ) (p : Name)
    → Adopts log seat views k p → ((name : Name) → seat name < length views)
    → Sits log (seated_at seat (k ∷ p) (length views)) (views ++ newcomer (k ∷ p) ∷ []) (length views) (newcomer (k ∷ p))
new_sits log seat views k p adopts seated = record {
  shown = λ name. sym (at name (name_eq name (k ∷ p)) refl);
  lives = λ live. record {
    sits = seated_there seat (k ∷ p) (length views);
    out = adopts.out;
    fresh = λ l late. nothing_split (k ∷ p) l log adopts.nothing;
    holds = λ mutex held. let within = held.1 in absurd (omega arith);
    once = tt;
    parent = λ l q is.
        let P : ℕ × Name → Type 0 = λ z. HasOut (seated_at seat (k ∷ p) (length views)) (views ++ newcomer (k ∷ p) ∷ []) z.0 z.1 in
        subst P (λ i. (head_is l q is i, tail_is l q is i)) (still_live log seat views k p (newcomer (k ∷ p)) p (λ (x : View). Contains x.out k) adopts adopts.parent);
  };
  rests = λ dead. cc;
} where
  head_is : (l : ℕ) (q : Name) → (k ∷ p) ≡ (l ∷ q) → k ≡ l
  head_is l q is = cc

  tail_is : (l : ℕ) (q : Name) → (k ∷ p) ≡ (l ∷ q) → p ≡ q
  tail_is l q is = cc

  at : (name : Name) (b : Bool) → name_eq name (k ∷ p) ≡ b → cond (seated_at seat (k ∷ p) (length views) name == length views) (of name log) [] ≡ []
  at name true is =
      let P : Name → Type 0 = λ n. of n log ≡ [] in
      let none_done : of name log ≡ [] = subst P (sym (same_name name (k ∷ p) is)) adopts.nothing in
      either_way (seated_at seat (k ∷ p) (length views) name == length views) none_done
    where
      either_way : (b : Bool) → of name log ≡ [] → cond b (of name log) [] ≡ []
      either_way true none_done = none_done
      either_way false none_done = refl
  at name false is =
      let within = seated name in
      let before = seated_before seat (k ∷ p) (length views) name (apart_names name (k ∷ p) is) in
      ap (λ (b : Bool). cond b (of name log) []) (ne_eqb (seated_at seat (k ∷ p) (length views) name) (length views) (λ same. let no : seat name ≡ length views = sym before ∙ same in omega arith))

adopt : (elements : ℕ) (log : List Item) (seat : Name → ℕ) (words : List ℕ) (views : List View) (k : ℕ) (p : Name)
    → Explains elements log seat words views → Adopts log seat views k p
    → Explains elements log (seated_at seat (k ∷ p) (length views)) words (views ++ newcomer (k ∷ p) ∷ [])
adopt elements log seat words views k p keeps adopts = record {
  wide = keeps.wide;
  legal = keeps.legal;
  values = keeps.values;
  mutexes = keeps.mutexes;
  owners = λ mutex name is. still_live log seat views k p (newcomer (k ∷ p)) name (λ (x : View). Contains x.held mutex) adopts (keeps.owners mutex name is);
  unborn = keeps.unborn;
  seated = λ name. at name (name_eq name (k ∷ p));
  each = λ j u there. elim (at_end views (newcomer (k ∷ p)) j u there) [
    | inl old ↦ old_sits elements log seat words views k p (newcomer (k ∷ p)) j u adopts old (keeps.each j u old)
    | inr last ↦
        let P : ℕ × View → Type 0 = λ z. Sits log (seated_at seat (k ∷ p) (length views)) (views ++ newcomer (k ∷ p) ∷ []) z.0 z.1 in
        subst P (λ i. (sym last.0 i, sym last.1 i)) (new_sits log seat views k p adopts keeps.seated)
  ];
} where
  at : (name : Name) (b : Bool) → cond b (length views) (seat name) < length (views ++ newcomer (k ∷ p) ∷ [])
  at name true = omega (arith, length-append views (newcomer (k ∷ p) ∷ []))
  at name false = let within = keeps.seated name in omega (arith, length-append views (newcomer (k ∷ p) ∷ []))

and_true : (a b : Bool) → a ≡ true → b ≡ true → (a && b) ≡ true
and_true true b one other = other
and_true false b one other = cc

pub not_itself : (k : ℕ) (p : Name) → p ≡ k ∷ p → ⊥
not_itself k p same = let longer : length p ≡ length (k ∷ p) = ap length same in omega arith

never_home : (n : Name) → (name_eq n n && false) ≡ false
never_home n = last (name_eq n n)
  where
    last : (b : Bool) → (b && false) ≡ false
    last true = refl
    last false = refl

split_takes : (log : List Item) (seat : Name → ℕ) (views : List View) (id : ℕ) (v : View) → Lives log seat views id v → v.live ≡ true
    → Takes log v (Split v.splits v.lane v.span) (parts v)
split_takes log seat views id v lives live = record {
  named = refl;
  live = live;
  more = refl;
  fits = tt;
  no_home = λ k. refl;
  fresh = λ k late. (omega arith, ne_eqb v.splits k (λ same. omega arith));
  holds = lives.holds;
  once = lives.once;
  out = λ k is. contains_later v.splits k v.out is;
  gains = λ mutex name is. inl (is, λ held. held);
}

-- nobody has the name of the next hand to be split off
none_yet : (elements : ℕ) (log : List Item) (seat : Name → ℕ) (words : List ℕ) (views : List View) (id : ℕ) (v : View) → Explains elements log seat words views
    → Lives log seat views id v → (j : ℕ) (u : View) → At (set views id (parts v)) j u → u.live ≡ true → u.name ≡ v.splits ∷ v.name → ⊥
none_yet elements log seat words views id v keeps lives j u there live named = elim (at_set views id j (parts v) u there) [
  | inl here ↦ not_itself v.splits v.name (ap (λ (x : View). x.name) here.1 ∙ named)
  | inr away ↦
      let other = (keeps.each j u away.1).lives live in
      let P : Name → Type 0 = λ n. is_out n log ≡ true in
      let one = out_is_split v.splits v.name log (subst P named other.out) in
      let two = (lives.fresh v.splits (omega arith)).0 in
      false≢true (sym two ∙ one)
]

pub splits_allowed : (elements id : ℕ) (v : View) → v.live ≡ true → Splits (Kept elements) id v (parts v) (child v)
splits_allowed elements id v live s kept at =
    let log = kept.log in
    let seat = kept.seat in
    let lives = (kept.keeps.each id v at).lives live in
    let x : Item = item v.name (Split v.splits v.lane v.span) in
    let fresh = lives.fresh v.splits (omega arith) in
    let own : name_eq v.name v.name ≡ true = is_same_name v.name in
    let next = advance elements kept.log kept.seat s.words s.views id v (Split v.splits v.lane v.span) (parts v) s.words kept.keeps at live
    (split_takes kept.log kept.seat s.views id v lives live) refl kept.keeps.values kept.keeps.mutexes in
    let sits = lives.sits in
    let P : ℕ → Type 0 = λ j. At (set s.views id (parts v)) j (parts v) in
    record {
      log = kept.log ++ x ∷ [];
      seat = seated_at kept.seat (v.splits ∷ v.name) (length (set s.views id (parts v)));
      keeps = adopt elements (kept.log ++ x ∷ []) kept.seat s.words (set s.views id (parts v)) v.splits v.name next (record {
        out = out_at_split v.name v.splits kept.log x (and_true (name_eq v.name v.name) (v.splits == v.splits) own (eq-eqb v.splits v.splits refl)) (never_home v.name) fresh.1;
        nothing =
            of-append (v.splits ∷ v.name) kept.log (x ∷ [])
            ∙ ap₂ (λ (a b : List Item). a ++ b) (kept.keeps.unborn v.splits v.name fresh.0) (of_other (v.splits ∷ v.name) v.name (Split v.splits v.lane v.span) (not_itself v.splits v.name));
        parent = record {
          view = parts v;
          there = subst P (sym lives.sits) (Rattle.atomic_table.proofs.Lists.set_here s.views id (parts v) (at_within s.views id v at));
          live = live;
          named = refl;
          has = contains_here v.splits v.out;
        };
        new = none_yet elements kept.log kept.seat s.words s.views id v kept.keeps lives;
      });
    }
