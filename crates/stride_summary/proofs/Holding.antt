-- What a list of addresses holds after a push, and a fact that an error leaves.
use Rattle.std.proofs.Common.{◌≡◌, ◌⊎◌, ◌↔◌, ℕ, List, [], ◌∷◌, ◌++◌, Contains, Result, Ok, Err, OnErr, inl, inr, sym, subst}
use Rattle.std.proofs.lemmas.List.Elements.{Contains-append_left, Contains-push, Contains-push_cases}

pub on_err_from : {T E P : Type 0} (r : Result T E) → P → OnErr r P
on_err_from (Ok x) p = tt
on_err_from (Err e) p = p

pub holds_one_more : (old new : List ℕ) (one : ℕ) → new ≡ old ++ one ∷ [] → (address : ℕ) → Contains new address ↔ (Contains old address ⊎ (one ≡ address))
holds_one_more old new one is address = subst (λ (xs : List ℕ). Contains xs address ↔ (Contains old address ⊎ (one ≡ address))) (sym is) (
  (λ there. Contains-push_cases old one address there),
  (λ either. elim either [
    | inl was ↦ Contains-append_left old (one ∷ []) address was
    | inr it ↦ subst (λ (a : ℕ). Contains (old ++ one ∷ []) a) it (Contains-push old one)
  ]),
)
