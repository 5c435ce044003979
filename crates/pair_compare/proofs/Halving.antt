-- The pairs of some segments with equal values of a field are those of either half, where they are in order.
use Rattle.std.proofs.Common.{◌≡◌, ◌⊎◌, ℕ, ◌+◌, ◌<◌, ◌≤◌, List, All, Bor, Contains, drop, length, get_or, take, inl, inr, sym, ◌∙◌, subst, arith}
use Rattle.std.specs.List.Sorted.{IsPermutation}
use Rattle.std.proofs.lemmas.Bool.{cases_eq}
use Rattle.std.proofs.lemmas.List.{get_or-drop, get_or-take, length-drop, length-take-le, take-append-drop}
use Rattle.std.proofs.lemmas.List.Elements.{All-contains, All-drop, All-take, Contains-append_cases, Contains-append_left, Contains-append_right}
use Rattle.std.proofs.lemmas.List.Sorted.{All-permutation, Contains-permutation, IsPermutation-sym}
use Rattle.log_segment.specs.declared.segment.Segment.{Segment}
use Rattle.pair_compare.specs.Compare.{IsSegmentPair}
use Rattle.pair_compare.specs.Conflict.{GrowsBy, OneHas}
use Rattle.pair_compare.specs.Fields.{Agrees, AreCut, AreWithin, CanDivide, IsApartPair, IsSamePair, label_value}
use Rattle.pair_compare.specs.Groups.{IsGroupPair, pointed}
use Rattle.pair_compare.specs.declared.field.Field.{Field}
use Rattle.pair_compare.specs.declared.group.Group.{Group}
use Rattle.pair_compare.proofs.Adds.{Adds-both, Adds-same}
use Rattle.pair_compare.proofs.Dividing.{pointed_by, points_to}
use Rattle.pair_compare.proofs.Members.{value_of}

module _ (level middle n : ℕ) (field : Field) (refs : List (Bor Segment)) (cut : AreCut level field middle n refs) where
  below : All (λ s. label_value level field s.now.label ≤ middle) (take n refs)
  below i d less =
      let inside : i < n = omega (arith, less, length-take-le n refs cut.within) in
      subst (λ (s : Bor Segment). label_value level field s.now.label ≤ middle) (sym (get_or-take n refs i d inside)) (cut.first i d inside)

  above : All (λ s. middle < label_value level field s.now.label) (drop n refs)
  above i d less = subst (λ (s : Bor Segment). middle < label_value level field s.now.label) (sym (get_or-drop n refs i d)) (cut.rest (n + i) d (omega arith) (omega (arith, less, length-drop n refs, cut.within)))

-- where an element of a list is found in its parts
module _ (n : ℕ) (refs : List (Bor Segment)) where
  in_half : (a : Segment) → Contains (pointed refs) a → Contains (pointed (take n refs)) a ⊎ Contains (pointed (drop n refs)) a
  in_half a h =
      let to = points_to refs a h in
      elim (Contains-append_cases (take n refs) (drop n refs) to.pointer (subst (λ (ss : List (Bor Segment)). Contains ss to.pointer) (sym (take-append-drop n refs)) to.listed)) [
        | inl there ↦ inl (subst (λ (s : Segment). Contains (pointed (take n refs)) s) to.is (pointed_by (take n refs) to.pointer there))
        | inr there ↦ inr (subst (λ (s : Segment). Contains (pointed (drop n refs)) s) to.is (pointed_by (drop n refs) to.pointer there))
      ]

  from_left : (a : Segment) → Contains (pointed (take n refs)) a → Contains (pointed refs) a
  from_left a h =
      let to = points_to (take n refs) a h in
      subst (λ (s : Segment). Contains (pointed refs) s) to.is (pointed_by refs to.pointer (subst (λ (ss : List (Bor Segment)). Contains ss to.pointer) (take-append-drop n refs) (Contains-append_left (take n refs) (drop n refs) to.pointer to.listed)))

  from_right : (a : Segment) → Contains (pointed (drop n refs)) a → Contains (pointed refs) a
  from_right a h =
      let to = points_to (drop n refs) a h in
      subst (λ (s : Segment). Contains (pointed refs) s) to.is (pointed_by refs to.pointer (subst (λ (ss : List (Bor Segment)). Contains ss to.pointer) (take-append-drop n refs) (Contains-append_right (take n refs) (drop n refs) to.pointer to.listed)))

-- the same pairs where all segments are among others
same_within : (level : ℕ) (field : Field) (some others : List Segment) (pair : ℕ × ℕ) → ((a : Segment) → Contains some a → Contains others a) → IsSamePair level field some pair → IsSamePair level field others pair
same_within level field some others pair within h = record {
  two = record { a = h.two.a; b = h.two.b; a_in = within h.two.a h.two.a_in; b_in = within h.two.b h.two.b_in; racing = h.two.racing };
  same = h.same;
}

-- the halves' pairs, of equal values of the field
split : (level middle n : ℕ) (field : Field) (refs : List (Bor Segment)) → AreCut level field middle n refs → (pair : ℕ × ℕ) → IsSamePair level field (pointed refs) pair
    → IsSamePair level field (pointed (take n refs)) pair ⊎ IsSamePair level field (pointed (drop n refs)) pair
split level middle n field refs cut pair h = elim (in_half n refs h.two.a h.two.a_in) [
  | inl a_left ↦ elim (in_half n refs h.two.b h.two.b_in) [
    | inl b_left ↦ inl (record { two = record { a = h.two.a; b = h.two.b; a_in = a_left; b_in = b_left; racing = h.two.racing }; same = h.same })
    | inr b_right ↦ absurd (across h.two.a h.two.b a_left b_right h.same)
  ]
  | inr a_right ↦ elim (in_half n refs h.two.b h.two.b_in) [
    | inl b_left ↦ absurd (across h.two.b h.two.a b_left a_right (sym h.same))
    | inr b_right ↦ inr (record { two = record { a = h.two.a; b = h.two.b; a_in = a_right; b_in = b_right; racing = h.two.racing }; same = h.same })
  ]
]
  where
    across : (a b : Segment) → Contains (pointed (take n refs)) a → Contains (pointed (drop n refs)) b → label_value level field a.label ≡ label_value level field b.label → ⊥
    across a b a_in b_in same =
        let to = points_to (take n refs) a a_in in
        let at = points_to (drop n refs) b b_in in
        let low = subst (λ (s : Segment). label_value level field s.label ≤ middle) to.is (All-contains (λ s. label_value level field s.now.label ≤ middle) (take n refs) to.pointer (below level middle n field refs cut) to.listed) in
        let high = subst (λ (s : Segment). middle < label_value level field s.label) at.is (All-contains (λ s. middle < label_value level field s.now.label) (drop n refs) at.pointer (above level middle n field refs cut) at.listed) in
        omega (arith, low, high, same)

pub grow_halves : (level middle n : ℕ) (field : Field) (refs : List (Bor Segment)) (g0 g1 g2 : List Group) → AreCut level field middle n refs
    → GrowsBy (OneHas IsGroupPair g0) (OneHas IsGroupPair g1) (IsSamePair level field (pointed (take n refs))) → GrowsBy (OneHas IsGroupPair g1) (OneHas IsGroupPair g2) (IsSamePair level field (pointed (drop n refs)))
    → GrowsBy (OneHas IsGroupPair g0) (OneHas IsGroupPair g2) (IsSamePair level field (pointed refs))
grow_halves level middle n field refs g0 g1 g2 cut left right =
    Adds-both (OneHas IsGroupPair g0) (OneHas IsGroupPair g1) (OneHas IsGroupPair g2) (IsSamePair level field (pointed (take n refs))) (IsSamePair level field (pointed (drop n refs))) (IsSamePair level field (pointed refs))
    left right (λ p h. same_within level field (pointed (take n refs)) (pointed refs) p (from_left n refs) h) (λ p h. same_within level field (pointed (drop n refs)) (pointed refs) p (from_right n refs) h) (λ p h. split level middle n field refs cut p h)

-- the order of the segments makes no difference
pub moved : (refs found : List (Bor Segment)) → IsPermutation refs found → (a : Segment) → Contains (pointed refs) a → Contains (pointed found) a
moved refs found same a h =
    let to = points_to refs a h in
    subst (λ (s : Segment). Contains (pointed found) s) to.is (pointed_by found to.pointer (Contains-permutation refs found to.pointer same to.listed))

pub grow_moved : (level : ℕ) (field : Field) (refs found : List (Bor Segment)) (g0 g1 : List Group) → IsPermutation refs found
    → GrowsBy (OneHas IsGroupPair g0) (OneHas IsGroupPair g1) (IsSamePair level field (pointed found)) → GrowsBy (OneHas IsGroupPair g0) (OneHas IsGroupPair g1) (IsSamePair level field (pointed refs))
grow_moved level field refs found g0 g1 same grows =
    Adds-same (OneHas IsGroupPair g0) (OneHas IsGroupPair g1) (IsSamePair level field (pointed found)) (IsSamePair level field (pointed refs))
    (λ p h. same_within level field (pointed found) (pointed refs) p (moved found refs (IsPermutation-sym refs found same)) h) (λ p h. same_within level field (pointed refs) (pointed found) p (moved refs found same) h) grows

-- the pairs of equal values of a field and those of different ones are all pairs
pub grow_all : (level : ℕ) (field : Field) (segments : List Segment) (g0 g1 g2 : List Group) → GrowsBy (OneHas IsGroupPair g0) (OneHas IsGroupPair g1) (IsApartPair level field segments)
    → GrowsBy (OneHas IsGroupPair g1) (OneHas IsGroupPair g2) (IsSamePair level field segments) → GrowsBy (OneHas IsGroupPair g0) (OneHas IsGroupPair g2) (IsSegmentPair segments)
grow_all level field segments g0 g1 g2 apart same =
    Adds-both (OneHas IsGroupPair g0) (OneHas IsGroupPair g1) (OneHas IsGroupPair g2) (IsApartPair level field segments) (IsSamePair level field segments) (IsSegmentPair segments)
    apart same (λ p h. h.two) (λ p h. h.two)
    (λ p h. elim (cases_eq (label_value level field h.a.label) (label_value level field h.b.label)) [ inl e ↦ inr (record { two = h; same = e }) | inr n ↦ inl (record { two = h; apart = n }) ])

-- where all values are the same, all pairs are of equal values
pub grow_same : (level : ℕ) (field : Field) (least most : ℕ) (refs : List (Bor Segment)) (g0 g1 : List Group) → AreWithin level field least most refs → most ≤ least
    → GrowsBy (OneHas IsGroupPair g0) (OneHas IsGroupPair g1) (IsSegmentPair (pointed refs)) → GrowsBy (OneHas IsGroupPair g0) (OneHas IsGroupPair g1) (IsSamePair level field (pointed refs))
grow_same level field least most refs g0 g1 within same grows =
    Adds-same (OneHas IsGroupPair g0) (OneHas IsGroupPair g1) (IsSegmentPair (pointed refs)) (IsSamePair level field (pointed refs))
    (λ p h. record { two = h; same = value_of level field least most refs h.a within same h.a_in ∙ sym (value_of level field least most refs h.b within same h.b_in) }) (λ p h. h.two) grows

pub pairs_moved : (refs found : List (Bor Segment)) (g0 g1 : List Group) → IsPermutation refs found
    → GrowsBy (OneHas IsGroupPair g0) (OneHas IsGroupPair g1) (IsSegmentPair (pointed found)) → GrowsBy (OneHas IsGroupPair g0) (OneHas IsGroupPair g1) (IsSegmentPair (pointed refs))
pairs_moved refs found g0 g1 same grows =
    Adds-same (OneHas IsGroupPair g0) (OneHas IsGroupPair g1) (IsSegmentPair (pointed found)) (IsSegmentPair (pointed refs))
    (λ p h. record { a = h.a; b = h.b; a_in = moved found refs back h.a h.a_in; b_in = moved found refs back h.b h.b_in; racing = h.racing })
    (λ p h. record { a = h.a; b = h.b; a_in = moved refs found same h.a h.a_in; b_in = moved refs found same h.b h.b_in; racing = h.racing }) grows
  where
    back : IsPermutation found refs
    back = IsPermutation-sym refs found same

-- and so it is for what can be divided
pub can_moved : (level least most : ℕ) (field : Field) (refs found : List (Bor Segment)) → IsPermutation refs found → CanDivide level field least most refs → CanDivide level field least most found
can_moved level least most field refs found same can = record {
  alike = record { prefix = can.alike.prefix; known = can.alike.known; long = can.alike.long; each = All-permutation (λ s. Agrees field can.alike.prefix can.alike.known s.now.label) refs found same can.alike.each };
  deep = All-permutation (λ s. length s.now.label ≤ 5) refs found same can.deep;
  within = All-permutation (λ s. (least ≤ label_value level field s.now.label) × (label_value level field s.now.label ≤ most)) refs found same can.within;
}

both_within : (xs : List (Bor Segment)) (P Q R : Bor Segment → Type 0) → ((s : Bor Segment) → P s → Q s → R s) → All P xs → All Q xs → All R xs
both_within xs P Q R both p q k d h = both (get_or xs k d) (p k d h) (q k d h)

pub left_half : (level least most middle n : ℕ) (field : Field) (refs : List (Bor Segment)) → CanDivide level field least most refs → AreCut level field middle n refs → CanDivide level field least middle (take n refs)
left_half level least most middle n field refs can cut = record {
  alike = record { prefix = can.alike.prefix; known = can.alike.known; long = can.alike.long; each = All-take (λ s. Agrees field can.alike.prefix can.alike.known s.now.label) n refs can.alike.each };
  deep = All-take (λ s. length s.now.label ≤ 5) n refs can.deep;
  within = both_within (take n refs) (λ s. (least ≤ label_value level field s.now.label) × (label_value level field s.now.label ≤ most)) (λ s. label_value level field s.now.label ≤ middle) (λ s. (least ≤ label_value level field s.now.label) × (label_value level field s.now.label ≤ middle)) (λ s range low. (range.0, low))
      (All-take (λ s. (least ≤ label_value level field s.now.label) × (label_value level field s.now.label ≤ most)) n refs can.within) (below level middle n field refs cut);
}

pub right_half : (level least most middle n : ℕ) (field : Field) (refs : List (Bor Segment)) → CanDivide level field least most refs → AreCut level field middle n refs → CanDivide level field (middle + 1) most (drop n refs)
right_half level least most middle n field refs can cut = record {
  alike = record { prefix = can.alike.prefix; known = can.alike.known; long = can.alike.long; each = All-drop (λ s. Agrees field can.alike.prefix can.alike.known s.now.label) n refs can.alike.each };
  deep = All-drop (λ s. length s.now.label ≤ 5) n refs can.deep;
  within = both_within (drop n refs) (λ s. (least ≤ label_value level field s.now.label) × (label_value level field s.now.label ≤ most)) (λ s. middle < label_value level field s.now.label) (λ s. (middle + 1 ≤ label_value level field s.now.label) × (label_value level field s.now.label ≤ most)) (λ s range high. (omega (arith, high), range.1))
      (All-drop (λ s. (least ≤ label_value level field s.now.label) × (label_value level field s.now.label ≤ most)) n refs can.within) (above level middle n field refs cut);
}
