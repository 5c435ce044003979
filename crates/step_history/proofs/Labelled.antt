-- Items with labels: where the items of each name have labels, the history of all names has them too.
use Rattle.std.proofs.Common.{◌≡◌, refl, sym, ap, ap₂, ◌∙◌, subst, ◌+◌, Bool, true, false, cond, List, [], ◌∷◌, ◌++◌, length, arith}
use Rattle.std.specs.Prelude.{filter}
use Rattle.std.proofs.lemmas.List.{length-append}
use Rattle.std.proofs.lemmas.List.Elements.{filter-append}
use Rattle.step_history.specs.declared.item.Item.{Item}
use Rattle.step_history.specs.History.{Name, name_eq, of}
use Rattle.step_history.specs.Labels.{Labelled, labelled_of, items_of, IsLabelling}
use Rattle.step_history.proofs.Names.{same_name, is_same_name}

-- the first element that passes a test, in its list
record Picked {X : Type 0} (test : X → Bool) (xs : List X) (x : X) (rest : List X) : Type 0 where
  before : List X
  after : List X
  parts : xs ≡ before ++ x ∷ after
  none : filter test before ≡ []
  passes : test x ≡ true
  others : filter test after ≡ rest

pick : {X : Type 0} (test : X → Bool) (xs : List X) (x : X) (rest : List X) → filter test xs ≡ x ∷ rest → Picked test xs x rest
pick test [] x rest same = cc
pick {X} test (y ∷ ys) x rest same = by_test (test y) refl (pick test ys x rest)
  where
    by_test : (b : Bool) → test y ≡ b → (filter test ys ≡ x ∷ rest → Picked test ys x rest) → Picked test (y ∷ ys) x rest
    by_test true is later =
        let kept : y ∷ filter test ys ≡ x ∷ rest = subst (λ (b : Bool). cond b (y ∷ filter test ys) (filter test ys) ≡ x ∷ rest) is same in
        let first : y ≡ x = cc in
        record { before = []; after = ys; parts = ap (λ (z : X). z ∷ ys) first; none = refl; passes = subst (λ (z : X). test z ≡ true) first is; others = cc }
    by_test false is later =
        let kept : filter test ys ≡ x ∷ rest = subst (λ (b : Bool). cond b (y ∷ filter test ys) (filter test ys) ≡ x ∷ rest) is same in
        let p = later kept in
        record {
          before = y ∷ p.before;
          after = p.after;
          parts = ap (λ (zs : List X). y ∷ zs) p.parts;
          none = subst (λ (b : Bool). cond b (y ∷ filter test p.before) (filter test p.before) ≡ []) (sym is) p.none;
          passes = p.passes;
          others = p.others;
        }

-- a test of a name, at one more element
pub filter_yes : {X : Type 0} (test : X → Bool) (x : X) (xs : List X) → test x ≡ true → filter test (x ∷ xs) ≡ x ∷ filter test xs
filter_yes test x xs is = rw is refl

pub filter_no : {X : Type 0} (test : X → Bool) (x : X) (xs : List X) → test x ≡ false → filter test (x ∷ xs) ≡ filter test xs
filter_no test x xs is = rw is refl

nothing_left : {X : Type 0} (items : List (Labelled X)) → ((name : Name) → of name [] ≡ items_of (labelled_of name items)) → items ≡ []
nothing_left [] same = refl
nothing_left {X} (x ∷ items) same =
    let own : labelled_of x.step.name (x ∷ items) ≡ x ∷ labelled_of x.step.name items
    = filter_yes (λ (y : Labelled X). name_eq y.step.name x.step.name) x items (is_same_name x.step.name) in
    let none : [] ≡ items_of (x ∷ labelled_of x.step.name items) = same x.step.name ∙ ap (λ (ys : List (Labelled X)). items_of ys) own in
    cc

pub labelling : {X : Type 0} (log : List Item) (items : List (Labelled X)) → ((name : Name) → of name log ≡ items_of (labelled_of name items)) → IsLabelling log items
labelling {X} [] items same = let none : items ≡ [] = nothing_left items same in
    subst (λ (xs : List (Labelled X)). IsLabelling [] xs) (sym none) (record { history = []; steps = refl; each = λ name. refl; counts = λ test. refl })
labelling {X} (x ∷ log) items same = by_own (labelled_of x.name items) refl (λ (others : List (Labelled X)) tail. labelling log others tail)
  where
    own_step : of x.name (x ∷ log) ≡ x ∷ of x.name log
    own_step = filter_yes (λ (y : Item). name_eq y.name x.name) x log (is_same_name x.name)

    by_own : (own : List (Labelled X)) → labelled_of x.name items ≡ own → ((others : List (Labelled X)) → ((name : Name) → of name log ≡ items_of (labelled_of name others)) → IsLabelling log others)
        → IsLabelling (x ∷ log) items
    by_own [] is later = let none : x ∷ of x.name log ≡ [] = sym own_step ∙ same x.name ∙ ap (λ (ys : List (Labelled X)). items_of ys) is in cc
    by_own (d ∷ rest) is later = with_pick (pick (λ (y : Labelled X). name_eq y.step.name x.name) items d rest is)
      where
        both : x ∷ of x.name log ≡ d.step ∷ items_of rest
        both = sym own_step ∙ same x.name ∙ ap (λ (ys : List (Labelled X)). items_of ys) is

        step_is : x ≡ d.step
        step_is = cc both

        with_pick : Picked (λ (y : Labelled X). name_eq y.step.name x.name) items d rest → IsLabelling (x ∷ log) items
        with_pick p = build (later (p.before ++ p.after) others_same)
          where
            appended : (name : Name) → labelled_of name (p.before ++ p.after) ≡ labelled_of name p.before ++ labelled_of name p.after
            appended name = filter-append (λ (y : Labelled X). name_eq y.step.name name) p.before p.after

            whole : (name : Name) → labelled_of name items ≡ labelled_of name p.before ++ labelled_of name (d ∷ p.after)
            whole name = ap (λ (ys : List (Labelled X)). labelled_of name ys) p.parts ∙ filter-append (λ (y : Labelled X). name_eq y.step.name name) p.before (d ∷ p.after)

            -- at the picked one's name, and at another
            here : labelled_of x.name (p.before ++ p.after) ≡ rest
            here = appended x.name ∙ ap (λ (ys : List (Labelled X)). ys ++ labelled_of x.name p.after) p.none ∙ p.others

            elsewhere : (name : Name) → name_eq d.step.name name ≡ false → labelled_of name (p.before ++ p.after) ≡ labelled_of name items
            elsewhere name other =
                appended name
                ∙ sym (whole name ∙ ap (λ (ys : List (Labelled X)). labelled_of name p.before ++ ys) (filter_no (λ (y : Labelled X). name_eq y.step.name name) d p.after other))

            others_same : (name : Name) → of name log ≡ items_of (labelled_of name (p.before ++ p.after))
            others_same name = by_name (name_eq x.name name) refl
              where
                by_name : (b : Bool) → name_eq x.name name ≡ b → of name log ≡ items_of (labelled_of name (p.before ++ p.after))
                by_name true e =
                    let it : x.name ≡ name = same_name x.name name e in
                    let tail : of x.name log ≡ items_of rest = cc both in
                    subst (λ (n : Name). of n log ≡ items_of (labelled_of n (p.before ++ p.after))) it (tail ∙ ap (λ (ys : List (Labelled X)). items_of ys) (sym here))
                by_name false e =
                    sym (filter_no (λ (y : Item). name_eq y.name name) x log e)
                    ∙ same name
                    ∙ ap (λ (ys : List (Labelled X)). items_of ys) (sym (elsewhere name (ap (λ (y : Item). name_eq y.name name) (sym step_is) ∙ e)))

            build : IsLabelling log (p.before ++ p.after) → IsLabelling (x ∷ log) items
            build l = record {
              history = d ∷ l.history;
              steps = ap₂ (λ (y : Item) (ys : List Item). y ∷ ys) (sym step_is) l.steps;
              each = λ name. by_name name (name_eq d.step.name name) refl;
              counts = λ test. count test;
            }
              where
                by_name : (name : Name) (b : Bool) → name_eq d.step.name name ≡ b → labelled_of name (d ∷ l.history) ≡ labelled_of name items
                by_name name true e =
                    let it : d.step.name ≡ name = same_name d.step.name name e in
                    let as_x : x.name ≡ name = ap (λ (y : Item). y.name) step_is ∙ it in
                    filter_yes (λ (y : Labelled X). name_eq y.step.name name) d l.history e
                    ∙ ap (λ (ys : List (Labelled X)). d ∷ ys) (l.each name ∙ subst (λ (n : Name). labelled_of n (p.before ++ p.after) ≡ rest) as_x here)
                    ∙ sym (subst (λ (n : Name). labelled_of n items ≡ d ∷ rest) as_x is)
                by_name name false e = filter_no (λ (y : Labelled X). name_eq y.step.name name) d l.history e ∙ l.each name ∙ elsewhere name e

                count : (test : Labelled X → Bool) → length (filter test (d ∷ l.history)) ≡ length (filter test items)
                count test =
                    let now : length (filter test l.history) ≡ length (filter test (p.before ++ p.after)) = l.counts test in
                    let parted : length (filter test (p.before ++ p.after)) ≡ length (filter test p.before) + length (filter test p.after)
                    = ap length (filter-append test p.before p.after) ∙ length-append (filter test p.before) (filter test p.after) in
                    let all : length (filter test items) ≡ length (filter test p.before) + length (filter test (d ∷ p.after))
                    = ap (λ (ys : List (Labelled X)). length (filter test ys)) p.parts ∙ (ap length (filter-append test p.before (d ∷ p.after)) ∙ length-append (filter test p.before) (filter test (d ∷ p.after))) in
                    let mine : length (filter test (d ∷ l.history)) ≡ length (filter test (d ∷ [])) + length (filter test l.history)
                    = ap length (filter-append test (d ∷ []) l.history) ∙ length-append (filter test (d ∷ [])) (filter test l.history) in
                    let yours : length (filter test (d ∷ p.after)) ≡ length (filter test (d ∷ [])) + length (filter test p.after)
                    = ap length (filter-append test (d ∷ []) p.after) ∙ length-append (filter test (d ∷ [])) (filter test p.after) in
                    omega arith
