-- The window of a history in which a part of a hand's work was done.
use Rattle.std.proofs.Common.{◌≡◌, ◌⊎◌, inl, inr, refl, sym, ap, ◌∙◌, ℕ, zero, suc, ◌+◌, ◌<◌, ◌≤◌, Bool, List, [], ◌∷◌, ◌++◌, length, Option, Some, None, arith}
use Rattle.std.specs.Prelude.{slice_get}
use Rattle.std.specs.Option.{option_map}
use Rattle.std.proofs.lemmas.Bool.{cases_lt}
use Rattle.std.proofs.lemmas.List.{append-nil, append_assoc, length-append}
use Rattle.std.proofs.lemmas.Option.{slice_get-map, slice_get_within, same_Some}
use Rattle.sw_base.proofs.Lists.{get_right}
use Rattle.step_history.specs.declared.item.Item.{Item}
use Rattle.step_history.specs.declared.item.Deed.TheVariants.{Split}
use Rattle.step_history.specs.History.{Name, name_eq, item}
use Rattle.step_history.specs.Labels.{labelled_of, items_of}
use Rattle.history_laws.proofs.Counting.{counted, counted_up, counted_over, Stands, stands, Cut, cut}
use Rattle.history_laws.proofs.LabelledWork.{Marked}
use Rattle.history_laws.proofs.WorkNames.{of_append}

-- elements of a list, and of two
pub record There {X : Type 0} (xs : List X) (n : ℕ) : Type 0 where
  pub x : X
  pub found : slice_get xs n ≡ Some x

pub there : {X : Type 0} (xs : List X) (n : ℕ) → n < length xs → There xs n
there [] n less = absurd (omega arith)
there (x ∷ xs) zero less = record { x = x; found = refl }
there (x ∷ xs) (suc n) less = let t = there xs n (omega arith) in record { x = t.x; found = t.found }

pub get_left : {X : Type 0} (xs ys : List X) (n : ℕ) (x : X) → n < length xs → slice_get (xs ++ ys) n ≡ Some x → slice_get xs n ≡ Some x
get_left [] ys n x less found = absurd (omega arith)
get_left (y ∷ xs) ys zero x less found = found
get_left (y ∷ xs) ys (suc n) x less found = get_left xs ys n x (omega arith) found

pub get_either : {X : Type 0} (xs ys : List X) (n : ℕ) (x : X) → slice_get (xs ++ ys) n ≡ Some x → (slice_get xs n ≡ Some x) ⊎ ((m : ℕ) × (n ≡ length xs + m) × (slice_get ys m ≡ Some x))
get_either [] ys n x found = inr (n, omega arith, found)
get_either (y ∷ xs) ys zero x found = inl found
get_either (y ∷ xs) ys (suc n) x found = at (get_either xs ys n x found) where
  at : (slice_get xs n ≡ Some x) ⊎ ((m : ℕ) × (n ≡ length xs + m) × (slice_get ys m ≡ Some x)) → (slice_get xs n ≡ Some x) ⊎ ((m : ℕ) × (suc n ≡ length (y ∷ xs) + m) × (slice_get ys m ≡ Some x))
  at (inl here) = inl here
  at (inr (m, e, later)) = inr (m, omega arith, later)

-- the splits of these items have numbers below k
abbrev pub SplitsBelow : Name → List Marked → ℕ → Type 0
SplitsBelow name items k = (n : ℕ) (x : Marked) → slice_get items n ≡ Some x → (j lane span : ℕ) → x.step ≡ item name (Split j lane span) → j < k

pub splits_below-append : (name : Name) (xs ys : List Marked) (k : ℕ) → SplitsBelow name xs k → SplitsBelow name ys k → SplitsBelow name (xs ++ ys) k
splits_below-append name xs ys k left right n x found j lane span is = at (get_either xs ys n x found) where
  at : (slice_get xs n ≡ Some x) ⊎ ((m : ℕ) × (n ≡ length xs + m) × (slice_get ys m ≡ Some x)) → j < k
  at (inl here) = left n x here j lane span is
  at (inr (m, e, later)) = right m x later j lane span is

pub splits_below-up : (name : Name) (xs : List Marked) (k l : ℕ) → k ≤ l → SplitsBelow name xs k → SplitsBelow name xs l
splits_below-up name xs k l le below n x found j lane span is = let less = below n x found j lane span is in omega arith

module _ (history : List Marked) where
  abbrev pub named : Name → Marked → Bool
  named name x = name_eq x.step.name name

  -- how much the hand of this name did before the place
  abbrev pub done : Name → ℕ → ℕ
  done name n = counted (named name) n history

  pub item_at : (n : ℕ) (x : Marked) → slice_get history n ≡ Some x → slice_get (items_of history) n ≡ Some x.step
  item_at n x found = slice_get-map (λ (y : Marked). y.step) history n ∙ ap (λ (o : Option Marked). option_map (λ (y : Marked). y.step) o) found

  pub record ItemAt (n : ℕ) (it : Item) : Type 0 where
    pub x : Marked
    pub found : slice_get history n ≡ Some x
    pub step_is : x.step ≡ it

  pub at_item : (n : ℕ) (it : Item) → slice_get (items_of history) n ≡ Some it → ItemAt n it
  at_item n it found = by_place (slice_get history n) refl where
    by_place : (o : Option Marked) → slice_get history n ≡ o → ItemAt n it
    by_place None e = let none : Some it ≡ None = sym found ∙ slice_get-map (λ (y : Marked). y.step) history n ∙ ap (λ (p : Option Marked). option_map (λ (y : Marked). y.step) p) e in cc
    by_place (Some x) e = record { x = x; found = e; step_is = same_Some x.step it (sym (item_at n x e) ∙ found) }

  -- the hands below the splits of these numbers of a name did what stands here under their names
  abbrev pub DidBelow : Name → ℕ → ℕ → List Marked → Type 0
  DidBelow name k count items = (pre : Name) (j : ℕ) → k ≤ j → j < k + count → labelled_of (pre ++ j ∷ name) history ≡ labelled_of (pre ++ j ∷ name) items

  -- from `start` until `end` the hand of this name did these items, after those before; the hands below its splits of the
  -- numbers from k on did what stands here under their names, and none of them was split off before
  pub record Window (name : Name) (k count : ℕ) (items before after : List Marked) (start end : ℕ) : Type 0 where
    pub own : labelled_of name history ≡ before ++ (labelled_of name items ++ after)
    pub below : DidBelow name k count items
    pub fresh : SplitsBelow name before k
    pub ordered : start ≤ end
    pub began : done name start ≤ length before
    pub ended : length before + length (labelled_of name items) ≤ done name end

  pub record Halves (name : Name) (k next first second : ℕ) (one other before after : List Marked) (start end : ℕ) : Type 0 where
    pub middle : ℕ
    pub left : Window name k first one before (labelled_of name other ++ after) start middle
    pub right : Window name next second other (before ++ labelled_of name one) after middle end
    pub number : done name middle ≡ length before + length (labelled_of name one)

  -- a window falls into two where its items do
  pub halves : (name : Name) (k next first second count : ℕ) (one other before after : List Marked) (start end : ℕ) → k + first ≡ next → first + second ≡ count
      → Window name k count (one ++ other) before after start end
      → SplitsBelow name (labelled_of name one) next
      → ((pre : Name) (j : ℕ) → j < next → labelled_of (pre ++ j ∷ name) other ≡ [])
      → ((pre : Name) (j : ℕ) → next ≤ j → labelled_of (pre ++ j ∷ name) one ≡ [])
      → Halves name k next first second one other before after start end
  halves name k next first second count one other before after start end next_is count_is w mine_below none_later none_before = record {
    middle = c.place;
    left = record {
      own = w.own ∙ ap (λ (xs : List Marked). before ++ xs) (ap (λ (xs : List Marked). xs ++ after) parts ∙ append_assoc (labelled_of name one) (labelled_of name other) after);
      below = λ pre j low high. w.below pre j low (omega arith) ∙ of_append (pre ++ j ∷ name) one other
          ∙ ap (λ (xs : List Marked). labelled_of (pre ++ j ∷ name) one ++ xs) (none_later pre j (omega arith)) ∙ append-nil (labelled_of (pre ++ j ∷ name) one);
      fresh = w.fresh;
      ordered = c.after;
      began = w.began;
      ended = omega (arith, c.number);
    };
    right = record {
      own = w.own ∙ ap (λ (xs : List Marked). before ++ (xs ++ after)) parts
          ∙ ap (λ (xs : List Marked). before ++ xs) (append_assoc (labelled_of name one) (labelled_of name other) after)
          ∙ sym (append_assoc before (labelled_of name one) (labelled_of name other ++ after));
      below = λ pre j low high. w.below pre j (omega arith) (omega arith) ∙ of_append (pre ++ j ∷ name) one other
          ∙ ap (λ (xs : List Marked). xs ++ labelled_of (pre ++ j ∷ name) other) (none_before pre j low);
      fresh = splits_below-append name before (labelled_of name one) next (splits_below-up name before k next (omega arith) w.fresh) mine_below;
      ordered = c.before;
      began = omega (arith, c.number, length-append before (labelled_of name one));
      ended = omega (arith, w.ended, lengths, length-append before (labelled_of name one));
    };
    number = c.number;
  }
    where
      parts : labelled_of name (one ++ other) ≡ labelled_of name one ++ labelled_of name other
      parts = of_append name one other

      lengths : length (labelled_of name (one ++ other)) ≡ length (labelled_of name one) + length (labelled_of name other)
      lengths = ap length parts ∙ length-append (labelled_of name one) (labelled_of name other)

      c : Cut (named name) history start end (length before + length (labelled_of name one))
      c = cut (named name) history start end (length before + length (labelled_of name one)) (omega (arith, w.began)) (omega (arith, w.ended, lengths)) w.ordered

  -- the item of a number within a window, and where it stands
  pub record InWindow (name : Name) (start end number : ℕ) (x : Marked) : Type 0 where
    pub place : ℕ
    pub found : slice_get history place ≡ Some x
    pub count : done name place ≡ number
    pub since : start ≤ place
    pub by : place < end

  pub in_window : (name : Name) (k count : ℕ) (items before after : List Marked) (start end n : ℕ) (x : Marked) → Window name k count items before after start end
      → slice_get (labelled_of name items) n ≡ Some x → InWindow name start end (length before + n) x
  in_window name k count items before after start end n x w found = by_stand (stands (named name) history (length before + n) x there_too)
    where
      within : n < length (labelled_of name items)
      within = slice_get_within (labelled_of name items) n x found

      there_too : slice_get (labelled_of name history) (length before + n) ≡ Some x
      there_too =
          ap (λ (xs : List Marked). slice_get xs (length before + n)) w.own
          ∙ get_right before (labelled_of name items ++ after) n
          ∙ get_first (labelled_of name items) n x found
        where
          get_first : (xs : List Marked) (n : ℕ) (x : Marked) → slice_get xs n ≡ Some x → slice_get (xs ++ after) n ≡ Some x
          get_first [] n x here = cc
          get_first (y ∷ xs) zero x here = here
          get_first (y ∷ xs) (suc n) x here = get_first xs n x here

      by_stand : Stands (named name) history (length before + n) x → InWindow name start end (length before + n) x
      by_stand s = record { place = s.place; found = s.found; count = s.number; since = since (cases_lt s.place start); by = by (cases_lt s.place end) } where
        since : (s.place < start) ⊎ (start ≤ s.place) → start ≤ s.place
        since (inr le) = le
        since (inl less) = let over = counted_over (named name) s.place start history x s.found s.passes less in absurd (omega (arith, w.began, s.number))

        by : (s.place < end) ⊎ (end ≤ s.place) → s.place < end
        by (inl less) = less
        by (inr le) = let up = counted_up (named name) end s.place history le in absurd (omega (arith, w.ended, s.number, within))
