-- Parts divided into phases, one part after another.
use Rattle.std.proofs.Common.{◌≡◌, refl, ap, sym, ◌∙◌, subst, ℕ, zero, suc, ◌+◌, arith, Bool, true, false, cond, List, [], ◌∷◌, ◌++◌, append_assoc, Some, take, All}
use Rattle.std.specs.Prelude.{map, slice_get}
use Rattle.std.proofs.lemmas.List.{append-nil, map-append}
use Rattle.std.proofs.lemmas.List.Concat.{flat_map-append}
use Rattle.std.proofs.lemmas.List.Elements.{All-nil, All-push}
use Rattle.std.proofs.lemmas.List.Sums.{sum_by-append, sum_by-cons}
use Rattle.std.proofs.lemmas.Option.{same_Some, none-some}
use Rattle.kernel_model.specs.declared.phase.Item.{Item}
use Rattle.kernel_model.specs.declared.phase.Item.TheVariants as item
use Rattle.team_phases.specs.declared.phasing.Phasing.{Phasing}
use Rattle.kernel_model.specs.Parts.{Part, Bar, is_drawn, drawn_count}
use Rattle.kernel_model.specs.Phases.{part_of, items_in, IsNoBar, EndsInBar, HasNumber, HaveNumbers}
use Rattle.team_phases.specs.Pieces.{IsPhasing}

-- ---- counting

abbrev number : Bool → ℕ
number b = cond b 1 0

drawn_push : (parts : List Part) (part : Part) → drawn_count (parts ++ part ∷ []) ≡ drawn_count parts + number (is_drawn part)
drawn_push parts part =
    omega (arith, sum_by-append (λ (p : Part). number (is_drawn p)) parts (part ∷ []), sum_by-cons (λ (p : Part). number (is_drawn p)) part [])

-- one part more, drawn or not
pub drawn_more : (parts : List Part) (part : Part) → is_drawn part ≡ true → drawn_count (parts ++ part ∷ []) ≡ drawn_count parts + 1
drawn_more parts part is = drawn_push parts part ∙ ap (λ (b : Bool). drawn_count parts + number b) is

pub drawn_same : (parts : List Part) (part : Part) → is_drawn part ≡ false → drawn_count (parts ++ part ∷ []) ≡ drawn_count parts
drawn_same parts part is =
    let none : number (is_drawn part) ≡ 0 = ap number is in
    omega (arith, drawn_push parts part, none)

-- ---- numbers

-- the same, where other items stand before
abbrev NumberedFrom : List Item → List Item → Type 0
NumberedFrom before items =
    (k : ℕ) (at : Item) → slice_get items k ≡ Some at → HasNumber (drawn_count (map part_of (before ++ take k items))) at

numbered_push : (before items : List Item) (x : Item) → NumberedFrom before items → HasNumber (drawn_count (map part_of (before ++ items))) x →
    NumberedFrom before (items ++ x ∷ [])
numbered_push before [] x all last zero at found = subst (HasNumber (drawn_count (map part_of (before ++ [])))) (same_Some x at found) last
numbered_push before [] x all last (suc k) at found = absurd (none-some at found)
numbered_push before (y ∷ items) x all last zero at found = all zero at found
numbered_push before (y ∷ items) x all last (suc k) at found =
    let along = λ (l : List Item). append_assoc before (y ∷ []) l in
    subst (λ (l : List Item). HasNumber (drawn_count (map part_of l)) at) (along (take k (items ++ x ∷ [])))
    (numbered_push (before ++ y ∷ []) items x
    (λ n a is. subst (λ (l : List Item). HasNumber (drawn_count (map part_of l)) a) (sym (along (take n items))) (all (suc n) a is))
    (subst (λ (l : List Item). HasNumber (drawn_count (map part_of l)) x) (sym (along items)) last)
    k at found)

-- one item more
pub numbered_more : (items : List Item) (x : Item) → HaveNumbers items → HasNumber (drawn_count (map part_of items)) x → HaveNumbers (items ++ x ∷ [])
numbered_more items x all last = numbered_push [] items x all last

-- ---- phases

module _ (parts : List Part) (old new : Phasing) (x : Item) (is : IsPhasing parts old) where
  all_pushed : items_in old.ended.items ++ (old.items.items ++ x ∷ []) ≡ (items_in old.ended.items ++ old.items.items) ++ x ∷ []
  all_pushed = sym (append_assoc (items_in old.ended.items) old.items.items (x ∷ []))

  parts_pushed : map part_of ((items_in old.ended.items ++ old.items.items) ++ x ∷ []) ≡ parts ++ part_of x ∷ []
  parts_pushed =
      map-append part_of (items_in old.ended.items ++ old.items.items) (x ∷ [])
      ∙ ap (λ (ps : List Part). ps ++ part_of x ∷ []) is.parts_are

  numbers_pushed : HasNumber (drawn_count parts) x → HaveNumbers ((items_in old.ended.items ++ old.items.items) ++ x ∷ [])
  numbers_pushed number_is =
      numbered_more (items_in old.ended.items ++ old.items.items) x is.numbered
      (subst (λ (ps : List Part). HasNumber (drawn_count ps) x) (sym is.parts_are) number_is)

  -- one item more in the phase that goes on
  pub goes_on_with : new.ended.items ≡ old.ended.items → new.items.items ≡ old.items.items ++ x ∷ [] → IsNoBar x →
      HasNumber (drawn_count parts) x → new.drawn ≡ drawn_count (parts ++ part_of x ∷ []) → IsPhasing (parts ++ part_of x ∷ []) new
  goes_on_with ended items plain number_is drawn =
      let all : items_in new.ended.items ++ new.items.items ≡ (items_in old.ended.items ++ old.items.items) ++ x ∷ [] =
      ap (λ (es : List (List Item)). items_in es ++ new.items.items) ended
      ∙ ap (λ (xs : List Item). items_in old.ended.items ++ xs) items
      ∙ all_pushed in
      record {
        parts_are = ap (map part_of) all ∙ parts_pushed;
        each = subst (All EndsInBar) (sym ended) is.each;
        goes_on = subst (All IsNoBar) (sym items) (All-push IsNoBar old.items.items x is.goes_on plain);
        drawn_is = drawn;
        numbered = subst HaveNumbers (sym all) (numbers_pushed number_is);
      }

-- a barrier, after which a new phase begins
pub ends_with : (parts : List Part) (old new : Phasing) (line : ℕ) → IsPhasing parts old →
    new.ended.items ≡ old.ended.items ++ (old.items.items ++ item.Bar line ∷ []) ∷ [] → new.items.items ≡ [] → new.drawn ≡ old.drawn →
    IsPhasing (parts ++ Bar line ∷ []) new
ends_with parts old new line is ended items drawn =
    let phase = old.items.items ++ item.Bar line ∷ [] in
    let all : items_in new.ended.items ++ new.items.items ≡ (items_in old.ended.items ++ old.items.items) ++ item.Bar line ∷ [] =
    ap (λ (es : List (List Item)). items_in es ++ new.items.items) ended
    ∙ ap (λ (xs : List Item). items_in (old.ended.items ++ phase ∷ []) ++ xs) items
    ∙ append-nil (items_in (old.ended.items ++ phase ∷ []))
    ∙ flat_map-append (λ (p : List Item). p) old.ended.items (phase ∷ [])
    ∙ ap (λ (xs : List Item). items_in old.ended.items ++ xs) (append-nil phase)
    ∙ all_pushed parts old new (item.Bar line) is in
    record {
      parts_are = ap (map part_of) all ∙ parts_pushed parts old new (item.Bar line) is;
      each =
          subst (All EndsInBar) (sym ended)
          (All-push EndsInBar old.ended.items phase is.each (record { before = old.items.items; line = line; parts = refl; only = is.goes_on }));
      goes_on = subst (All IsNoBar) (sym items) (All-nil IsNoBar);
      drawn_is = drawn ∙ is.drawn_is ∙ sym (drawn_same parts (Bar line) refl);
      numbered = subst HaveNumbers (sym all) (numbers_pushed parts old new (item.Bar line) is tt);
    }
