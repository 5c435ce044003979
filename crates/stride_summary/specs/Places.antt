-- A map from keys to their places.
use Rattle.std.specs.Prelude.{◌≡◌, ℕ, List, All, Option, None, Some}
use Rattle.std.specs.BTreeMap.{BTreeMap, get}
use Rattle.std.specs.declared.cmp.Ordering.{Ordering}
use Rattle.stride_summary.specs.contracts.key.KeyOrd.TheImpl as key_order
use Rattle.stride_summary.specs.declared.key.Key.{Key}
use Rattle.stride_summary.specs.declared.stretch.Stretch.{Stretch}
use Rattle.stride_summary.specs.Stretches.{IsPlaceOf}

-- how two keys are ordered
abbrev pub key_cmp : Key → Key → Ordering
key_cmp = (key_order.ghosts).cmp

-- the place that the map has for the key
abbrev pub place_under : BTreeMap Key ℕ → Key → Option ℕ
place_under places key = get key_cmp places key

-- the map has the place of each key, and no other
abbrev pub TellsPlaces : BTreeMap Key ℕ → List Stretch → Type 0
TellsPlaces places stretches = (key : Key) → (place_under places key ≡ None → All (λ stretch. stretch.key ≡ key → ⊥) stretches)
    × ((place : ℕ) → place_under places key ≡ Some place → IsPlaceOf stretches key place)
