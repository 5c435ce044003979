-- One access more.
use Rattle.std.proofs.Common.{◌≡◌, ◌⊎◌, inl, inr, ℕ, Some, refl, sym, subst}
use Rattle.std.specs.Prelude.{IsNone, Option, None, ◌↔◌}
use Rattle.stride_summary.specs.declared.key.Key.{Key}
use Rattle.stride_summary.specs.declared.summary.Summary.{Summary}
use Rattle.stride_summary.specs.Summary.{IsSummed, SumsOneMore}
use Rattle.log_segment.specs.Walking.{GainsAccess, HasSum}

pub gains_one : (old mid : Option Summary) (one new : Summary) (key : Key) (address : ℕ) → ((other : Key) (place : ℕ) → HasSum mid other place ↔ HasSum old other place) → mid ≡ Some one
    → SumsOneMore one new key address → GainsAccess old (Some new) key address
gains_one old mid one new key address same is more = record {
  opened = refl;
  pairs = λ other place. ((λ h. forth other place ((more other place).0 h)), (λ h. (more other place).1 (back other place h)));
}
  where
    there : (other : Key) (place : ℕ) → IsSummed one other place ↔ HasSum old other place
    there other place = subst (λ (o : Option Summary). HasSum o other place ↔ HasSum old other place) is (same other place)

    forth : (other : Key) (place : ℕ) → IsSummed one other place ⊎ ((key ≡ other) × (address ≡ place)) → HasSum old other place ⊎ ((key ≡ other) × (address ≡ place))
    forth other place (inl h) = inl ((there other place).0 h)
    forth other place (inr h) = inr h

    back : (other : Key) (place : ℕ) → HasSum old other place ⊎ ((key ≡ other) × (address ≡ place)) → IsSummed one other place ⊎ ((key ≡ other) × (address ≡ place))
    back other place (inl h) = inl ((there other place).1 h)
    back other place (inr h) = inr h

-- an empty summary has what none has
pub none_same : (old new : Option Summary) → old ≡ None → ((key : Key) (address : ℕ) → HasSum new key address → ⊥) → (key : Key) (address : ℕ) → HasSum new key address ↔ HasSum old key address
none_same old new none nothing key address = subst (λ (o : Option Summary). HasSum new key address ↔ HasSum o key address) (sym none) ((λ h. absurd (nothing key address h)), (λ h. absurd h))

pub is_none : (old : Option Summary) → IsNone old → old ≡ None
is_none None none = refl
is_none (Some summary) none = cc
