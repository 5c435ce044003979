-- What the parts of a list have, the list has.
use Rattle.std.proofs.Common.{◌↔◌, List, [], ◌++◌, inl, inr}
use Rattle.std.proofs.lemmas.List.Elements.{Contains-append_cases, Contains-append_left, Contains-append_right}
use Rattle.pair_compare.specs.Conflict.{GrowsBy, OneHas}
use Rattle.pair_compare.proofs.Adds.{Adds-both, not_in_nothing}

pub Adds-append : {X K : Type 0} (O M N : K → Type 0) (P : X → K → Type 0) (xs ys : List X) → GrowsBy O M (OneHas P xs) → GrowsBy M N (OneHas P ys) → GrowsBy O N (OneHas P (xs ++ ys))
Adds-append O M N P xs ys first then = Adds-both O M N (OneHas P xs) (OneHas P ys) (OneHas P (xs ++ ys)) first then
    (λ p h. record { one = h.one; listed = Contains-append_left xs ys h.one h.listed; has = h.has })
    (λ p h. record { one = h.one; listed = Contains-append_right xs ys h.one h.listed; has = h.has })
    (λ p h. elim (Contains-append_cases xs ys h.one h.listed) [
      | inl left ↦ inl (record { one = h.one; listed = left; has = h.has })
      | inr right ↦ inr (record { one = h.one; listed = right; has = h.has })
    ])

-- what was added to nothing is all
pub all_from_none : {X K : Type 0} (P : X → K → Type 0) (N Q : K → Type 0) → GrowsBy (OneHas P []) N Q → (pair : K) → N pair ↔ Q pair
all_from_none P N Q adds pair = (
  λ h. elim (adds.only pair h) [ inl none ↦ absurd (not_in_nothing none.one none.listed) | inr q ↦ q ],
  λ q. adds.added pair q,
)
