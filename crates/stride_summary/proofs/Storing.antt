-- A list of stretches with one of them changed, and with one more.
use Rattle.std.proofs.Common.{◌≡◌, ◌⊎◌, ◌↔◌, ℕ, ◌+◌, ◌-◌, ◌/◌, ◌<◌, Bool, true, false, cond, List, [], ◌∷◌, ◌++◌, length, get_or, set, Contains, inl, inr, sym, ◌∙◌, ap, subst, arith, get_or-set_same, get_or-set_other}
use Rattle.std.specs.List.{All, sum_by}
use Rattle.std.proofs.lemmas.List.Sums.{get_or-le-sum_by, sum_by-append, sum_by-set}
use Rattle.std.proofs.Math.ListN.{length-set}
use Rattle.std.proofs.lemmas.Bool.{cases_eq}
use Rattle.std.proofs.lemmas.List.{get_or_default}
use Rattle.std.proofs.lemmas.List.Elements.{Contains-append_left, Contains-push_cases}
use Rattle.std.proofs.lemmas.List.Quantifiers.{all_pairs_push}
use Rattle.stride_summary.specs.declared.key.Key.{Key}
use Rattle.stride_summary.specs.declared.stretch.Stretch.{Stretch}
use Rattle.stride_summary.specs.Stretches.{Holds, HoldsOneMore, HoldsSame, IsPlaceOf, KeysDiffer, needed_of}

Contains-set_new : {X : Type 0} (xs : List X) (i : ℕ) (y : X) → i < length xs → Contains (set xs i y) y
Contains-set_new xs i y within = (i, omega (arith, length-set xs i y), get_or-set_same xs i y y within)

-- what is listed before is the changed one or is still listed
Contains-set_old : {X : Type 0} (xs : List X) (i : ℕ) (y z : X) → Contains xs z → (get_or xs i z ≡ z) ⊎ Contains (set xs i y) z
Contains-set_old xs i y z there = elim (cases_eq there.0 i) [
  | inl here ↦ inl (subst (λ (k : ℕ). get_or xs k z ≡ z) here there.2)
  | inr other ↦ inr (there.0, omega (arith, length-set xs i y, there.1), get_or-set_other xs i there.0 y z other ∙ there.2)
]

-- what is listed then is the new one or was listed
Contains-set_cases : {X : Type 0} (xs : List X) (i : ℕ) (y z : X) → i < length xs → Contains (set xs i y) z → (y ≡ z) ⊎ Contains xs z
Contains-set_cases xs i y z within there = elim (cases_eq there.0 i) [
  | inl here ↦ inl (sym (get_or-set_same xs i y z within) ∙ subst (λ (k : ℕ). get_or (set xs i y) k z ≡ z) here there.2)
  | inr other ↦ inr (there.0, omega (arith, length-set xs i y, there.1), sym (get_or-set_other xs i there.0 y z other) ∙ there.2)
]

listed_at : (xs : List Stretch) (i : ℕ) (was : Stretch) → i < length xs → was ≡ get_or xs i was → Contains xs was
listed_at xs i was within is = (i, within, sym is)

-- a stretch that was the changed one
was_it : (xs : List Stretch) (i : ℕ) (was other : Stretch) → i < length xs → was ≡ get_or xs i was → get_or xs i other ≡ other → was ≡ other
was_it xs i was other within is here = is ∙ get_or_default xs i was other within ∙ here

pub HoldsOneMore-set : (xs : List Stretch) (i : ℕ) (was now : Stretch) (address : ℕ) → i < length xs → was ≡ get_or xs i was → now.key ≡ was.key →
    ((a : ℕ) → Contains now.addresses.items a ↔ (Contains was.addresses.items a ⊎ (address ≡ a))) → HoldsOneMore xs (set xs i now) was.key address
HoldsOneMore-set xs i was now address within is key more k a = (forth, back) where
  forth : Holds (set xs i now) k a → Holds xs k a ⊎ ((was.key ≡ k) × (address ≡ a))
  forth h = elim (Contains-set_cases xs i now h.stretch within h.listed) [
    | inl it ↦ elim ((more a).0 (subst (λ (s : Stretch). Contains s.addresses.items a) (sym it) h.held)) [
      | inl old ↦ inl (record { stretch = was; listed = listed_at xs i was within is; keyed = sym key ∙ ap (λ (s : Stretch). s.key) it ∙ h.keyed; held = old })
      | inr new ↦ inr (sym key ∙ ap (λ (s : Stretch). s.key) it ∙ h.keyed, new)
    ]
    | inr old ↦ inl (record { stretch = h.stretch; listed = old; keyed = h.keyed; held = h.held })
  ]

  here : Contains now.addresses.items a → was.key ≡ k → Holds (set xs i now) k a
  here held keyed = record { stretch = now; listed = Contains-set_new xs i now within; keyed = key ∙ keyed; held = held }

  back : Holds xs k a ⊎ ((was.key ≡ k) × (address ≡ a)) → Holds (set xs i now) k a
  back (inl h) = elim (Contains-set_old xs i now h.stretch h.listed) [
    | inl it ↦ here ((more a).1 (inl (subst (λ (s : Stretch). Contains s.addresses.items a) (sym (was_it xs i was h.stretch within is it)) h.held))) (ap (λ (s : Stretch). s.key) (was_it xs i was h.stretch within is it) ∙ h.keyed)
    | inr still ↦ record { stretch = h.stretch; listed = still; keyed = h.keyed; held = h.held }
  ]
  back (inr new) = here ((more a).1 (inr new.1)) new.0

pub HoldsSame-set : (xs : List Stretch) (i : ℕ) (was now : Stretch) → i < length xs → was ≡ get_or xs i was → now.key ≡ was.key →
    ((a : ℕ) → Contains now.addresses.items a ↔ Contains was.addresses.items a) → HoldsSame xs (set xs i now)
HoldsSame-set xs i was now within is key same k a = (forth, back) where
  forth : Holds (set xs i now) k a → Holds xs k a
  forth h = elim (Contains-set_cases xs i now h.stretch within h.listed) [
    | inl it ↦ record { stretch = was; listed = listed_at xs i was within is; keyed = sym key ∙ ap (λ (s : Stretch). s.key) it ∙ h.keyed; held = (same a).0 (subst (λ (s : Stretch). Contains s.addresses.items a) (sym it) h.held) }
    | inr old ↦ record { stretch = h.stretch; listed = old; keyed = h.keyed; held = h.held }
  ]

  back : Holds xs k a → Holds (set xs i now) k a
  back h = elim (Contains-set_old xs i now h.stretch h.listed) [
    | inl it ↦ record { stretch = now; listed = Contains-set_new xs i now within; keyed = key ∙ ap (λ (s : Stretch). s.key) (was_it xs i was h.stretch within is it) ∙ h.keyed; held = (same a).1 (subst (λ (s : Stretch). Contains s.addresses.items a) (sym (was_it xs i was h.stretch within is it)) h.held) }
    | inr still ↦ record { stretch = h.stretch; listed = still; keyed = h.keyed; held = h.held }
  ]

not_in_nothing : (a : ℕ) → Contains [] a → ⊥
not_in_nothing a there = omega (arith, there.1)

-- one more stretch, which has no address
pub HoldsSame-push : (xs : List Stretch) (new : Stretch) → new.addresses.items ≡ [] → HoldsSame xs (xs ++ new ∷ [])
HoldsSame-push xs new none k a = (forth, back) where
  forth : Holds (xs ++ new ∷ []) k a → Holds xs k a
  forth h = elim (Contains-push_cases xs new h.stretch h.listed) [
    | inl old ↦ record { stretch = h.stretch; listed = old; keyed = h.keyed; held = h.held }
    | inr it ↦ absurd (not_in_nothing a (subst (λ (ns : List ℕ). Contains ns a) (ap (λ (s : Stretch). s.addresses.items) (sym it) ∙ none) h.held))
  ]

  back : Holds xs k a → Holds (xs ++ new ∷ []) k a
  back h = record { stretch = h.stretch; listed = Contains-append_left xs (new ∷ []) h.stretch h.listed; keyed = h.keyed; held = h.held }

pub HoldsSame-pushed : (pushed : Bool) (xs ys : List Stretch) (new : Stretch) → ys ≡ cond pushed (xs ++ new ∷ []) xs → new.addresses.items ≡ [] → HoldsSame xs ys
HoldsSame-pushed true xs ys new is none = subst (λ (ss : List Stretch). HoldsSame xs ss) (sym is) (HoldsSame-push xs new none)
HoldsSame-pushed false xs ys new is none = subst (λ (ss : List Stretch). HoldsSame xs ss) (sym is) (λ k a. ((λ h. h), (λ h. h)))

KeysDiffer-push : (xs : List Stretch) (new : Stretch) → KeysDiffer xs → All (λ (s : Stretch). s.key ≡ new.key → ⊥) xs → KeysDiffer (xs ++ new ∷ [])
KeysDiffer-push xs new differ fresh = all_pairs_push (λ (one other : Stretch). one.key ≡ other.key → ⊥) xs new differ fresh

-- after a push that may have failed
pub KeysDiffer-pushed : (pushed : Bool) (xs ys : List Stretch) (new : Stretch) → ys ≡ cond pushed (xs ++ new ∷ []) xs → KeysDiffer xs → All (λ (s : Stretch). s.key ≡ new.key → ⊥) xs → KeysDiffer ys
KeysDiffer-pushed true xs ys new is differ fresh = subst (λ (ss : List Stretch). KeysDiffer ss) (sym is) (KeysDiffer-push xs new differ fresh)
KeysDiffer-pushed false xs ys new is differ fresh = subst (λ (ss : List Stretch). KeysDiffer ss) (sym is) differ

pub needed-pushed : (pushed : Bool) (xs ys : List Stretch) (new : Stretch) → ys ≡ cond pushed (xs ++ new ∷ []) xs → new.limit ≡ 0 → sum_by needed_of ys ≡ sum_by needed_of xs
needed-pushed true xs ys new is none = ap (sum_by needed_of) is ∙ sum_by-append needed_of xs (new ∷ []) ∙ omega arith
needed-pushed false xs ys new is none = ap (sum_by needed_of) is

pub some_element : {X : Type 0} (xs : List X) → 0 < length xs → X
some_element [] some = absurd (omega arith)
some_element (x ∷ xs) some = x

pub HoldsOneMore-at : (xs ys zs : List Stretch) (place : ℕ) (key : Key) (address : ℕ) → HoldsSame xs ys → IsPlaceOf ys key place → ((d : Stretch) → HoldsOneMore ys zs (get_or ys place d).key address) → HoldsOneMore xs zs key address
HoldsOneMore-at xs ys zs place key address same at more k a =
    let d : Stretch = some_element ys (omega (arith, at.0)) in
    let one : HoldsOneMore ys zs key address = subst (λ (q : Key). HoldsOneMore ys zs q address) (at.1 d) (more d) in (
      (λ h. elim ((one k a).0 h) [ inl was ↦ inl ((same k a).0 was) | inr new ↦ inr new ]),
      (λ either. (one k a).1 (elim either [ inl was ↦ inl ((same k a).1 was) | inr new ↦ inr new ])),
    )

pub HoldsSame-twice : (xs ys zs : List Stretch) → HoldsSame xs ys → HoldsSame ys zs → HoldsSame xs zs
HoldsSame-twice xs ys zs first second k a = ((λ h. (first k a).0 ((second k a).0 h)), (λ h. (second k a).1 ((first k a).1 h)))

-- the sum where one stretch has the same limit
pub needed-kept : (xs : List Stretch) (i : ℕ) (was now : Stretch) → i < length xs → was ≡ get_or xs i was → now.limit ≡ was.limit → sum_by needed_of xs ≡ sum_by needed_of (set xs i now)
needed-kept xs i was now within is same =
    let there : needed_of (get_or xs i was) ≡ needed_of was = ap (λ (s : Stretch). needed_of s) (sym is) in
    let kept : needed_of now ≡ needed_of was = ap (λ (n : ℕ). (n + 1) / 2) same in
    omega (arith, sum_by-set needed_of xs i now was within, get_or-le-sum_by needed_of xs i was within, there, kept)

-- the sum where one stretch has another limit
pub needed-raised : (xs : List Stretch) (i : ℕ) (was now : Stretch) (before after : ℕ) → i < length xs → was ≡ get_or xs i was → before ≡ needed_of was → after ≡ needed_of now →
    sum_by needed_of xs - before + after ≡ sum_by needed_of (set xs i now)
needed-raised xs i was now before after within is old new =
    let there : needed_of (get_or xs i was) ≡ needed_of was = ap (λ (s : Stretch). needed_of s) (sym is) in
    omega (arith, sum_by-set needed_of xs i now was within, get_or-le-sum_by needed_of xs i was within, there, old, new)
