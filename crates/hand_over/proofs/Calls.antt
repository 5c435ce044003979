-- What the seat of a call has between its steps.
use Rattle.std.proofs.Common.{◌≡◌, ℕ, ◌<◌, true, List, [], ◌∷◌, length, Option, Some, None, sym, ap, ◌∙◌, subst, length-set}
use mathlib.Core.Option.{none}
use Rattle.atomic_table.specs.Seated.{TableId}
use Rattle.atomic_table.specs.Table.{Me, rest, step}
use Rattle.hand_over.specs.declared.view.Turn.{Turn}
use Rattle.hand_over.specs.declared.view.Turn.TheVariants.{Out}
use Rattle.hand_over.specs.declared.view.View.{View}
use Rattle.hand_over.specs.Steps.{sends}
use Rattle.hand_over.specs.Views.{opening_lane, with_turn_of}

-- a lane of the desk is one of the table
pub word_inside : (z z' : TableId) (count lane : ℕ) → z ≡ z' → count ≡ z.words → lane < count → lane < z'.words
word_inside z z' count lane same counted made = subst (λ (t : TableId). lane < t.words) same (subst (λ (n : ℕ). lane < n) counted made)

pub slot_inside : (z z' : TableId) (count lane : ℕ) → z ≡ z' → count ≡ z.words → z.slots ≡ z.words → lane < count → lane < z'.slots
slot_inside z z' count lane same counted square made = subst (λ (t : TableId). lane < t.slots) same (subst (λ (n : ℕ). lane < n) (counted ∙ sym square) made)

-- the slot that was taken last
pub first_slot : {X : Type 0} (xs tail : List (ℕ × X)) (x : ℕ × X) → xs ≡ x ∷ tail → xs ≡ x ∷ rest xs
first_slot {X} xs tail x is = is ∙ ap (λ (t : List (ℕ × X)). x ∷ t) (sym (ap (λ (ys : List (ℕ × X)). rest ys) is))

module _ {A P : Type 0} where
  -- the desk has put a parcel into the slot that it took
  pub filled : (v : View A P) (slots : List (ℕ × Option P)) (lane : ℕ) (parcel : P) (m n : Me (Option P) (View A P)) → slots ≡ [] → m ≡ (opening_lane v lane, (lane, None) ∷ slots) → n ≡ (m.0, (lane, Some parcel) ∷ rest m.1)
      → n ≡ (opening_lane v lane, (lane, Some parcel) ∷ [])
  filled v slots lane parcel m n none_before opened put =
      put ∙ (ap (λ (k : Me (Option P) (View A P)). (k.0, (lane, Some parcel) ∷ rest k.1)) opened ∙ ap (λ (xs : List (ℕ × Option P)). (opening_lane v lane, (lane, Some parcel) ∷ xs)) none_before)

  -- and has given it back
  pub sent_off : (v : View A P) (lane count : ℕ) (parcel : P) (m n : Me (Option P) (View A P)) → m ≡ (opening_lane v lane, (lane, Some parcel) ∷ []) → sends (step count lane 1 0 none) m 1 n → n ≡ (with_turn_of v lane (Out parcel), [])
  sent_off v lane count parcel m n before sends = sends parcel (ap (λ (k : Me (Option P) (View A P)). k.1) before) ∙ ap (λ (k : Me (Option P) (View A P)). (with_turn_of k.0 lane (Out parcel), [])) before

  -- a place has put a parcel into the slot that it holds
  pub refilled : (v : View A P) (lane : ℕ) (parcel : P) (m n : Me (Option P) (View A P)) → m.0 ≡ v → m.1 ≡ (lane, None) ∷ [] → n ≡ (m.0, (lane, Some parcel) ∷ rest m.1) → n ≡ (v, (lane, Some parcel) ∷ [])
  refilled v lane parcel m n view slots put = put ∙ (λ i. (view i, (lane, Some parcel) ∷ rest (slots i)))

  -- the desk stands as between two calls
  pub stands : (v : View A P) (lane : ℕ) (turn : Turn P) (m : Me (Option P) (View A P)) (z z' : TableId) → m ≡ (with_turn_of v lane turn, []) → z' ≡ z → v.is_desk ≡ true → length v.turns ≡ z.words → z.slots ≡ z.words
      → (m.0.is_desk ≡ true) × (m.0.opened ≡ None) × (m.1 ≡ []) × (length m.0.turns ≡ z'.words) × (z'.slots ≡ z'.words)
  stands v lane turn m z z' are same is counted square = (
    ap (λ (k : Me (Option P) (View A P)). k.0.is_desk) are ∙ is,
    ap (λ (k : Me (Option P) (View A P)). k.0.opened) are,
    ap (λ (k : Me (Option P) (View A P)). k.1) are,
    ap (λ (k : Me (Option P) (View A P)). length k.0.turns) are ∙ (length-set v.turns lane turn ∙ (counted ∙ ap (λ (t : TableId). t.words) (sym same))),
    ap (λ (t : TableId). t.slots) same ∙ (square ∙ ap (λ (t : TableId). t.words) (sym same)),
  )
