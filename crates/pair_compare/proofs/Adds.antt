-- Sets of pairs that grow by the pairs of more elements.
use Rattle.std.proofs.Common.{◌≡◌, ◌⊎◌, ℕ, zero, suc, refl, ◌+◌, ◌<◌, List, [], ◌∷◌, ◌++◌, take, drop, length, get_or, Contains, inl, inr, sym, ap, ◌∙◌, subst, arith}
use Rattle.std.proofs.lemmas.List.Elements.{Contains-push, Contains-push_cases, Contains-append_left, Contains-get_or}
use Rattle.std.proofs.lemmas.List.{take_more, take-append-drop}
use Rattle.pair_compare.specs.Conflict.{GrowsBy, AddsPairs, AddsSome, OneHas}

pub not_in_nothing : {X : Type 0} (x : X) → Contains [] x → ⊥
not_in_nothing x h = omega (arith, h.1)

-- no element adds nothing
pub AddsPairs-none : {X : Type 0} (P : X → ℕ × ℕ → Type 0) (keys : List (ℕ × ℕ)) → AddsPairs keys keys (OneHas P [])
AddsPairs-none P keys = record {
  kept = λ pair k. k;
  added = λ pair h. absurd (not_in_nothing h.one h.listed);
  only = λ pair k. inl k;
}

-- the same pairs, told in another way
pub Adds-same : {K : Type 0} (O N P Q : K → Type 0) → ((pair : K) → P pair → Q pair) → ((pair : K) → Q pair → P pair) → GrowsBy O N P → GrowsBy O N Q
Adds-same O N P Q there back adds = record {
  kept = adds.kept;
  added = λ pair q. adds.added pair (back pair q);
  only = λ pair h. elim (adds.only pair h) [ inl was ↦ inl was | inr p ↦ inr (there pair p) ];
}

pub AddsPairs-same : (old new : List (ℕ × ℕ)) (P Q : ℕ × ℕ → Type 0) → ((pair : ℕ × ℕ) → P pair → Q pair) → ((pair : ℕ × ℕ) → Q pair → P pair) → AddsPairs old new P → AddsPairs old new Q
AddsPairs-same old new P Q there back adds = Adds-same (Contains old) (Contains new) P Q there back adds

pub AddsSome-same : (old new : List (ℕ × ℕ)) (P Q : ℕ × ℕ → Type 0) → ((pair : ℕ × ℕ) → P pair → Q pair) → AddsSome old new P → AddsSome old new Q
AddsSome-same old new P Q there adds = record {
  kept = adds.kept;
  only = λ pair h. elim (adds.only pair h) [ inl was ↦ inl was | inr p ↦ inr (there pair p) ];
}

-- two steps in turn add what either adds
pub Adds-both : {K : Type 0} (O M N P Q R : K → Type 0) → GrowsBy O M P → GrowsBy M N Q → ((p : K) → P p → R p) → ((p : K) → Q p → R p) → ((p : K) → R p → P p ⊎ Q p) → GrowsBy O N R
Adds-both O M N P Q R first then p_r q_r parts = record {
  kept = λ pair k. then.kept pair (first.kept pair k);
  added = λ pair r. elim (parts pair r) [ inl p ↦ then.kept pair (first.added pair p) | inr q ↦ then.added pair q ];
  only = λ pair k. elim (then.only pair k) [
    | inl one ↦ elim (first.only pair one) [ inl old ↦ inl old | inr p ↦ inr (p_r pair p) ]
    | inr q ↦ inr (q_r pair q)
  ];
}

pub AddsPairs-both : (k0 k1 k2 : List (ℕ × ℕ)) (P Q R : ℕ × ℕ → Type 0) → AddsPairs k0 k1 P → AddsPairs k1 k2 Q → ((p : ℕ × ℕ) → P p → R p) → ((p : ℕ × ℕ) → Q p → R p)
    → ((p : ℕ × ℕ) → R p → P p ⊎ Q p) → AddsPairs k0 k2 R
AddsPairs-both k0 k1 k2 P Q R first then p_r q_r parts = Adds-both (Contains k0) (Contains k1) (Contains k2) P Q R first then p_r q_r parts

-- what was added before a refusal, and some of the rest
pub AddsSome-after : (k0 k1 k2 : List (ℕ × ℕ)) (P Q R : ℕ × ℕ → Type 0) → AddsPairs k0 k1 P → AddsSome k1 k2 Q → ((p : ℕ × ℕ) → P p → R p) → ((p : ℕ × ℕ) → Q p → R p)
    → AddsSome k0 k2 R
AddsSome-after k0 k1 k2 P Q R first then p_r q_r = record {
  kept = λ pair k. then.kept pair (first.kept pair k);
  only = λ pair k. elim (then.only pair k) [
    | inl one ↦ elim (first.only pair one) [ inl old ↦ inl old | inr p ↦ inr (p_r pair p) ]
    | inr q ↦ inr (q_r pair q)
  ];
}

-- one more element
OneHas-push : {X K : Type 0} (P : X → K → Type 0) (xs : List X) (x : X) (pair : K) → OneHas P (xs ++ x ∷ []) pair → OneHas P xs pair ⊎ P x pair
OneHas-push P xs x pair h = elim (Contains-push_cases xs x h.one h.listed) [
  | inl old ↦ inl (record { one = h.one; listed = old; has = h.has })
  | inr same ↦ inr (subst (λ (z : _). P z pair) (sym same) h.has)
]

pub Adds-push : {X K : Type 0} (O M N : K → Type 0) (P : X → K → Type 0) (xs : List X) (x : X) → GrowsBy O M (OneHas P xs) → GrowsBy M N (P x) → GrowsBy O N (OneHas P (xs ++ x ∷ []))
Adds-push {X} O M N P xs x first then = Adds-both O M N (OneHas P xs) (P x) (OneHas P (xs ++ x ∷ [])) first then
    (λ p h. record { one = h.one; listed = Contains-append_left xs (x ∷ []) h.one h.listed; has = h.has })
    (λ p h. record { one = x; listed = Contains-push xs x; has = h })
    (λ p h. OneHas-push P xs x p h)

-- the turn of one element of a list
pub Adds-next : {X K : Type 0} (O M N : K → Type 0) (P : X → K → Type 0) (xs : List X) (i : ℕ) (x : X) → i < length xs → x ≡ get_or xs i x → GrowsBy O M (OneHas P (take i xs)) → GrowsBy M N (P x)
    → GrowsBy O N (OneHas P (take (i + 1) xs))
Adds-next {X} O M N P xs i x within is first then =
    subst (λ (zs : List X). GrowsBy O N (OneHas P zs)) (sym (take_more xs i x within ∙ ap (λ (z : X). take i xs ++ z ∷ []) (sym is)))
    (Adds-push O M N P (take i xs) x first then)

pub AddsPairs-next : {X : Type 0} (k0 k1 k2 : List (ℕ × ℕ)) (P : X → ℕ × ℕ → Type 0) (xs : List X) (i : ℕ) (x : X) → i < length xs → x ≡ get_or xs i x → AddsPairs k0 k1 (OneHas P (take i xs))
    → AddsPairs k1 k2 (P x) → AddsPairs k0 k2 (OneHas P (take (i + 1) xs))
AddsPairs-next {X} k0 k1 k2 P xs i x within is first then = Adds-next (Contains k0) (Contains k1) (Contains k2) P xs i x within is first then

-- one more element adds what it has
pub Adds-pushed : {X K : Type 0} (P : X → K → Type 0) (xs : List X) (x : X) → GrowsBy (OneHas P xs) (OneHas P (xs ++ x ∷ [])) (P x)
Adds-pushed P xs x = record {
  kept = λ p h. record { one = h.one; listed = Contains-append_left xs (x ∷ []) h.one h.listed; has = h.has };
  added = λ p h. record { one = x; listed = Contains-push xs x; has = h };
  only = λ p h. OneHas-push P xs x p h;
}

pub Adds-none : {X K : Type 0} (O : K → Type 0) (P : X → K → Type 0) → GrowsBy O O (OneHas P [])
Adds-none O P = record { kept = λ pair k. k; added = λ pair h. absurd (not_in_nothing h.one h.listed); only = λ pair k. inl k }

in_prefix : {X : Type 0} (xs : List X) (i : ℕ) (x : X) → Contains (take i xs) x → Contains xs x
in_prefix {X} xs i x h = subst (λ (ys : List X). Contains ys x) (take-append-drop i xs) (Contains-append_left (take i xs) (drop i xs) x h)

pub in_turn : {X : Type 0} (xs : List X) (i : ℕ) (x : X) → i < length xs → x ≡ get_or xs i x → Contains xs x
in_turn {X} xs i x within is = subst (λ (z : X). Contains xs z) (sym is) (Contains-get_or xs i x within)

-- a refusal at one element of a list
pub AddsSome-next : {X : Type 0} (k0 k1 k2 : List (ℕ × ℕ)) (P : X → ℕ × ℕ → Type 0) (xs : List X) (i : ℕ) (x : X) → i < length xs → x ≡ get_or xs i x → AddsPairs k0 k1 (OneHas P (take i xs))
    → AddsSome k1 k2 (P x) → AddsSome k0 k2 (OneHas P xs)
AddsSome-next {X} k0 k1 k2 P xs i x within is first then =
    AddsSome-after k0 k1 k2 (OneHas P (take i xs)) (P x) (OneHas P xs) first then
    (λ p h. record { one = h.one; listed = in_prefix xs i h.one h.listed; has = h.has })
    (λ p h. record { one = x; listed = in_turn xs i x within is; has = h })

-- a list with an element before it
pub OneHas-cons : {X K : Type 0} (P : X → K → Type 0) (x : X) (xs : List X) (pair : K) → OneHas P (x ∷ xs) pair → P x pair ⊎ OneHas P xs pair
OneHas-cons P x xs pair h = at h.listed
  where
    at : Contains (x ∷ xs) h.one → P x pair ⊎ OneHas P xs pair
    at (zero, within, is) = inl (subst (λ (z : _). P z pair) (sym is) h.has)
    at (suc k, within, is) = inr (record { one = h.one; listed = (k, omega arith, is); has = h.has })

pub OneHas-first : {X K : Type 0} (P : X → K → Type 0) (x : X) (xs : List X) (pair : K) → P x pair → OneHas P (x ∷ xs) pair
OneHas-first P x xs pair h = record { one = x; listed = (0, omega arith, refl); has = h }

pub OneHas-later : {X K : Type 0} (P : X → K → Type 0) (x : X) (xs : List X) (pair : K) → OneHas P xs pair → OneHas P (x ∷ xs) pair
OneHas-later P x xs pair h = record { one = h.one; listed = (let (k, within, is) = h.listed in (suc k, omega arith, is)); has = h.has }
