-- Stretches that are emptied one after another.
use Rattle.std.proofs.Common.{BTreeMap, ◌≡◌, ◌<◌, ◌≤◌, ℕ, suc, ◌+◌, ◌/◌, List, [], ◌∷◌, length, get_or, set, Contains, inl, inr, refl, sym, ◌∙◌, ap, subst, arith, get_or-set_same, get_or-set_other}
use Rattle.std.specs.Prelude.{All}
use Rattle.std.specs.List.{sum_by}
use Rattle.std.proofs.Math.ListN.{length-set}
use Rattle.std.proofs.lemmas.Bool.{cases_eq}
use Rattle.std.proofs.lemmas.List.{get_or_default}
use Rattle.std.proofs.lemmas.List.Elements.{All-contains}
use Rattle.std.proofs.lemmas.List.Sums.{sum_by-cons}
use Rattle.stride_summary.specs.declared.key.Key.{Key}
use Rattle.stride_summary.specs.declared.single.Single.{Single}
use Rattle.stride_summary.specs.declared.stretch.Stretch.{Stretch}
use Rattle.stride_summary.specs.Places.{TellsPlaces}
use Rattle.stride_summary.specs.Singles.{HoldsSingle}
use Rattle.stride_summary.specs.Stretches.{AreEmptied, Holds, IsEmptied, KeysDiffer, needed_of}

-- the first so many are emptied, and the others as before
pub record EmptiedUpTo (n : ℕ) (old now : List Stretch) : Type 0 where
  pub count : length now ≡ length old
  pub keyed : (place : ℕ) (d : Stretch) → (get_or now place d).key ≡ (get_or old place d).key
  pub done : (place : ℕ) (d : Stretch) → place < n → place < length old → IsEmptied (get_or now place d)
  pub left : (place : ℕ) (d : Stretch) → n ≤ place → get_or now place d ≡ get_or old place d

pub EmptiedUpTo-start : (old : List Stretch) → EmptiedUpTo 0 old old
EmptiedUpTo-start old = record {
  count = refl;
  keyed = λ place d. refl;
  done = λ place d less there. absurd (omega arith);
  left = λ place d later. refl;
}

pub EmptiedUpTo-next : (n : ℕ) (old now : List Stretch) (was new : Stretch) → n < length old → get_or now n was ≡ was → new.key ≡ was.key → IsEmptied new → EmptiedUpTo n old now → EmptiedUpTo (n + 1) old (set now n new)
EmptiedUpTo-next n old now was new within is key emptied before = record {
  count = length-set now n new ∙ before.count;
  keyed = keyed;
  done = done;
  left = λ place d later. get_or-set_other now n place new d (λ same. omega arith) ∙ before.left place d (omega arith);
} where
  inside : n < length now
  inside = omega (arith, before.count)

  keyed : (place : ℕ) (d : Stretch) → (get_or (set now n new) place d).key ≡ (get_or old place d).key
  keyed place d = elim (cases_eq place n) [
    | inl same ↦ ap (λ (i : ℕ). (get_or (set now n new) i d).key) same ∙ ap (λ (s : Stretch). s.key) (get_or-set_same now n new d inside) ∙ key ∙ ap (λ (s : Stretch). s.key) (sym is ∙ get_or_default now n was d inside) ∙ before.keyed n d ∙ ap (λ (i : ℕ). (get_or old i d).key) (sym same)
    | inr other ↦ ap (λ (s : Stretch). s.key) (get_or-set_other now n place new d other) ∙ before.keyed place d
  ]

  done : (place : ℕ) (d : Stretch) → place < n + 1 → place < length old → IsEmptied (get_or (set now n new) place d)
  done place d less there = elim (cases_eq place n) [
    | inl same ↦ subst (λ (s : Stretch). IsEmptied s) (sym (ap (λ (i : ℕ). get_or (set now n new) i d) same ∙ get_or-set_same now n new d inside)) emptied
    | inr other ↦ subst (λ (s : Stretch). IsEmptied s) (sym (get_or-set_other now n place new d other)) (before.done place d (omega arith) there)
  ]

pub EmptiedUpTo-all : (n : ℕ) (old now : List Stretch) → length old ≤ n → EmptiedUpTo n old now → AreEmptied old now
EmptiedUpTo-all n old now all so = record {
  count = so.count;
  keyed = so.keyed;
  emptied = λ place d there. so.done place d (omega (arith, so.count)) (omega (arith, so.count));
}

pub emptied-needed : (xs : List Stretch) → All IsEmptied xs → 0 ≡ sum_by needed_of xs
emptied-needed [] all = omega arith
emptied-needed (x ∷ xs) all =
    let none : needed_of x ≡ 0 = ap (λ (n : ℕ). (n + 1) / 2) (all 0 x (omega arith)).1 in
    omega (arith, sum_by-cons needed_of x xs, none, emptied-needed xs (λ i d within. all (suc i) d (omega arith)))

pub emptied-holds : (xs : List Stretch) (key : Key) (address : ℕ) → All IsEmptied xs → Holds xs key address → ⊥
emptied-holds xs key address all h =
    let there = subst (λ (ns : List ℕ). Contains ns address) (All-contains IsEmptied xs h.stretch all h.listed).0 h.held in
    omega (arith, there.1)

pub emptied-differ : (old new : List Stretch) → AreEmptied old new → KeysDiffer old → KeysDiffer new
emptied-differ old new so differ i j d less within same = differ i j d less (omega (arith, so.count)) (sym (so.keyed i d) ∙ same ∙ so.keyed j d)

pub emptied-told : (places : BTreeMap Key ℕ) (old new : List Stretch) → AreEmptied old new → TellsPlaces places old → TellsPlaces places new
emptied-told places old new so told key = (
  λ none i d within same. (told key).0 none i d (omega (arith, so.count)) (sym (so.keyed i d) ∙ same),
  λ place found.
      (let at = (told key).1 place found in
      (omega (arith, at.0, so.count), λ d. so.keyed place d ∙ at.1 d)),
)

pub none_single : (singles : List Single) (key : Key) (address : ℕ) → singles ≡ [] → HoldsSingle singles key address → ⊥
none_single singles key address none h = let there = subst (λ (ss : List Single). Contains ss h.single) none h.listed in omega (arith, there.1)
