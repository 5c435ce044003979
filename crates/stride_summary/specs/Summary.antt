-- What a summary has: pairs of a key and an address.
use Rattle.std.specs.Prelude.{◌≡◌, ◌↔◌, ◌⊎◌, ℕ, Option, None, Some}
use Rattle.stride_summary.specs.declared.key.Key.{Key}
use Rattle.stride_summary.specs.declared.summary.Summary.{Summary}
use Rattle.stride_summary.specs.Singles.{HoldsSingle, MayStandAlone}
use Rattle.stride_summary.specs.Stretches.{Holds, IsPlaceOf}

-- an access of the key at the address was added
abbrev pub IsSummed : Summary → Key → ℕ → Type 0
IsSummed summary key address = Holds summary.stretches.items key address ⊎ HoldsSingle summary.singles.list.items key address

abbrev pub SumsSame : Summary → Summary → Type 0
SumsSame old new = (key : Key) (address : ℕ) → IsSummed new key address ↔ IsSummed old key address

abbrev pub SumsOneMore : Summary → Summary → Key → ℕ → Type 0
SumsOneMore old new one where_to = (key : Key) (address : ℕ) → IsSummed new key address ↔ (IsSummed old key address ⊎ ((one ≡ key) × (where_to ≡ address)))

-- the key has this place, or it has none and its accesses may stand alone
pub record IsPlacing (summary : Summary) (key : Key) (found : Option ℕ) : Type 0 where
  pub there : (place : ℕ) → found ≡ Some place → IsPlaceOf summary.stretches.items key place
  pub alone : found ≡ None → MayStandAlone summary.most summary.stretches key
