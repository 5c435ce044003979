-- Accesses that stand alone: none has the key of a stretch.
use Rattle.std.proofs.Common.{◌≡◌, ◌⊎◌, ◌↔◌, ℕ, ◌<◌, ◌≤◌, Bool, true, false, cond, List, [], ◌∷◌, ◌++◌, length, get_or, set, Contains, inl, inr, refl, sym, ◌∙◌, ap, subst, arith, get_or-set_same, get_or-set_other}
use Rattle.std.specs.Prelude.{All}
use Rattle.std.proofs.Math.ListN.{length-set}
use Rattle.std.proofs.lemmas.Bool.{cases_eq, cases_lt}
use Rattle.std.proofs.lemmas.List.{get_or_append_left, get_or_at, length_push}
use Rattle.std.proofs.lemmas.List.Elements.{Contains-append_left, Contains-push, Contains-push_cases}
use Rattle.stride_summary.specs.declared.key.Key.{Key}
use Rattle.stride_summary.specs.declared.single.Single.{Single}
use Rattle.stride_summary.specs.declared.stretch.Stretch.{Stretch}
use Rattle.stride_summary.specs.Accesses.{single_key}
use Rattle.stride_summary.specs.Singles.{AreOthers, HoldsSingle}
use Rattle.stride_summary.specs.Stretches.{Holds, HoldsOneMore, HoldsSame}

pub holds_within : (xs ys : List Single) (k : Key) (a : ℕ) → ((s : Single) → Contains xs s → Contains ys s) → HoldsSingle xs k a → HoldsSingle ys k a
holds_within xs ys k a within h = record { single = h.single; listed = within h.single h.listed; keyed = h.keyed; addressed = h.addressed }

-- one more access
pub holds_put : (old new : List Single) (one : Single) (key : Key) (address : ℕ) → new ≡ old ++ one ∷ [] → single_key one ≡ key → one.addr ≡ address → (k : Key) (a : ℕ) → HoldsSingle new k a ↔ (HoldsSingle old k a ⊎ ((key ≡ k) × (address ≡ a)))
holds_put old new one key address is keyed addressed k a = subst (λ (ss : List Single). HoldsSingle ss k a ↔ (HoldsSingle old k a ⊎ ((key ≡ k) × (address ≡ a)))) (sym is) (
  (λ h. elim (Contains-push_cases old one h.single h.listed) [
    | inl was ↦ inl (record { single = h.single; listed = was; keyed = h.keyed; addressed = h.addressed })
    | inr it ↦ inr (sym keyed ∙ ap single_key it ∙ h.keyed, sym addressed ∙ ap (λ (s : Single). s.addr) it ∙ h.addressed)
  ]),
  (λ either. elim either [
    | inl h ↦ holds_within old (old ++ one ∷ []) k a (λ s there. Contains-append_left old (one ∷ []) s there) h
    | inr same ↦ record { single = one; listed = Contains-push old one; keyed = keyed ∙ same.0; addressed = addressed ∙ same.1 }
  ]),
)

-- the others stay others where a stretch keeps its key
pub others_set : (singles : List Single) (xs : List Stretch) (i : ℕ) (was now : Stretch) → i < length xs → was ≡ get_or xs i was → now.key ≡ was.key → AreOthers singles xs → AreOthers singles (set xs i now)
others_set singles xs i was now within is key others j d there = elim (cases_eq j i) [
  | inl same ↦ λ a h.
      let here : get_or (set xs i now) j d ≡ now = ap (λ (n : ℕ). get_or (set xs i now) n d) same ∙ get_or-set_same xs i now d within in
      others i was within a (subst (λ (k : Key). HoldsSingle singles k a) (ap (λ (s : Stretch). s.key) here ∙ key ∙ ap (λ (s : Stretch). s.key) is) h)
  | inr other ↦ λ a h. others j d (omega (arith, length-set xs i now, there)) a (subst (λ (s : Stretch). HoldsSingle singles s.key a) (get_or-set_other xs i j now d other) h)
]

-- and where there is one more
others_push : (singles : List Single) (xs : List Stretch) (new : Stretch) → AreOthers singles xs → ((a : ℕ) → HoldsSingle singles new.key a → ⊥) → AreOthers singles (xs ++ new ∷ [])
others_push singles xs new others none j d there = elim (cases_lt j (length xs)) [
  | inl old ↦ λ a h. others j d old a (subst (λ (s : Stretch). HoldsSingle singles s.key a) (get_or_append_left xs (new ∷ []) d j old) h)
  | inr not ↦ λ a h. none a (subst (λ (s : Stretch). HoldsSingle singles s.key a) (get_or_at xs new [] d j (omega (arith, length_push xs new, there))) h)
]

pub others_pushed : (pushed : Bool) (singles : List Single) (xs ys : List Stretch) (new : Stretch) → ys ≡ cond pushed (xs ++ new ∷ []) xs → AreOthers singles xs → ((a : ℕ) → HoldsSingle singles new.key a → ⊥) → AreOthers singles ys
others_pushed true singles xs ys new is others none = subst (λ (ss : List Stretch). AreOthers singles ss) (sym is) (others_push singles xs new others none)
others_pushed false singles xs ys new is others none = subst (λ (ss : List Stretch). AreOthers singles ss) (sym is) others

-- a key under a mutex, or one that comes early, is no access's
pub not_single : (most count : ℕ) (singles : List Single) (key : Key) → (count < most → singles ≡ []) → (most ≤ count → key.held ≡ [] → ⊥) → (a : ℕ) → HoldsSingle singles key a → ⊥
not_single most count singles key early apart a h = elim (cases_lt count most) [
  | inl less ↦ omega (arith, subst (λ (ss : List Single). Contains ss h.single) (early less) h.listed)
  | inr full ↦ apart full (ap (λ (k : Key). k.held) (sym h.keyed))
]

-- the others stay others where the accesses are the same
pub others_same : (old new : List Single) (xs : List Stretch) → ((s : Single) → Contains new s → Contains old s) → AreOthers old xs → AreOthers new xs
others_same old new xs within others j d there a h = others j d there a (holds_within new old (get_or xs j d).key a within h)

-- and where one more may stand alone
pub others_put : (old new : List Single) (xs : List Stretch) (key : Key) (address : ℕ) → All (λ stretch. stretch.key ≡ key → ⊥) xs → ((k : Key) (a : ℕ) → HoldsSingle new k a ↔ (HoldsSingle old k a ⊎ ((key ≡ k) × (address ≡ a)))) → AreOthers old xs → AreOthers new xs
others_put old new xs key address fresh more others j d there a h = elim ((more (get_or xs j d).key a).0 h) [
  | inl was ↦ others j d there a was
  | inr same ↦ fresh j d there (sym same.0)
]

-- what holds no access is empty
pub none_left : (old new : List Single) → ((s : Single) → Contains new s → Contains old s) → old ≡ [] → new ≡ []
none_left old [] within none = refl
none_left old (one ∷ new) within none = let there = subst (λ (ss : List Single). Contains ss one) none (within one (0, omega arith, refl)) in absurd (omega (arith, there.1))

-- an access more, where the others are the same before
pub holds_more : (old mid new : List Single) (key : Key) (address : ℕ) → ((s : Single) → Contains mid s ↔ Contains old s) → ((k : Key) (a : ℕ) → HoldsSingle new k a ↔ (HoldsSingle mid k a ⊎ ((key ≡ k) × (address ≡ a))))
    → (k : Key) (a : ℕ) → HoldsSingle new k a ↔ (HoldsSingle old k a ⊎ ((key ≡ k) × (address ≡ a)))
holds_more old mid new key address same more k a = (
  (λ h. elim ((more k a).0 h) [ inl was ↦ inl (holds_within mid old k a (λ s. (same s).0) was) | inr it ↦ inr it ]),
  (λ either. (more k a).1 (elim either [ inl was ↦ inl (holds_within old mid k a (λ s. (same s).1) was) | inr it ↦ inr it ])),
)

module _ (xs ys zs : List Stretch) (olds news : List Single) (key : Key) (address : ℕ) (kept : HoldsSame xs ys) (k : Key) (a : ℕ) where
  abbrev Before : Type 0
  Before = Holds xs k a ⊎ HoldsSingle olds k a

  -- a stretch has one address more
  pub sums_keyed : HoldsOneMore ys zs key address → news ≡ olds → (Holds zs k a ⊎ HoldsSingle news k a) ↔ (Before ⊎ ((key ≡ k) × (address ≡ a)))
  sums_keyed more same = (
    (λ h. elim h [
      | inl held ↦ elim ((more k a).0 held) [ inl was ↦ inl (inl ((kept k a).0 was)) | inr it ↦ inr it ]
      | inr alone ↦ inl (inr (subst (λ (ss : List Single). HoldsSingle ss k a) same alone))
    ]),
    (λ h. elim h [
      | inl before ↦ elim before [ inl held ↦ inl ((more k a).1 (inl ((kept k a).1 held))) | inr alone ↦ inr (subst (λ (ss : List Single). HoldsSingle ss k a) (sym same) alone) ]
      | inr it ↦ inl ((more k a).1 (inr it))
    ]),
  )

  -- an access more stands alone
  pub sums_alone : HoldsSingle news k a ↔ (HoldsSingle olds k a ⊎ ((key ≡ k) × (address ≡ a))) → (Holds ys k a ⊎ HoldsSingle news k a) ↔ (Before ⊎ ((key ≡ k) × (address ≡ a)))
  sums_alone more = (
    (λ h. elim h [
      | inl held ↦ inl (inl ((kept k a).0 held))
      | inr alone ↦ elim (more.0 alone) [ inl was ↦ inl (inr was) | inr it ↦ inr it ]
    ]),
    (λ h. elim h [
      | inl before ↦ elim before [ inl held ↦ inl ((kept k a).1 held) | inr alone ↦ inr (more.1 (inl alone)) ]
      | inr it ↦ inr (more.1 (inr it))
    ]),
  )

  -- nothing more
  pub sums_same : ((s : Single) → Contains news s ↔ Contains olds s) → (Holds ys k a ⊎ HoldsSingle news k a) ↔ Before
  sums_same same = (
    (λ h. elim h [ inl held ↦ inl ((kept k a).0 held) | inr alone ↦ inr (holds_within news olds k a (λ s. (same s).0) alone) ]),
    (λ h. elim h [ inl held ↦ inl ((kept k a).1 held) | inr alone ↦ inr (holds_within olds news k a (λ s. (same s).1) alone) ]),
  )
