-- The addresses of several keys.
use Rattle.std.specs.Prelude.{◌≡◌, ◌⊎◌, ◌↔◌, ℕ, ◌+◌, ◌/◌, ◌<◌, ◌≤◌, List, [], All, Contains, AllPairs, vec_len, vec_capacity, slice_index_or, length}
use Rattle.stride_summary.specs.declared.key.Key.{Key}
use Rattle.stride_summary.specs.declared.run.Run.{Run}
use Rattle.stride_summary.specs.declared.stretch.Stretch.{Stretch}
use Rattle.stride_summary.specs.Run.{EachApart, HasPair}

-- the most runs that the addresses of a key make before there has to be more room
abbrev pub needed_of : Stretch → ℕ
needed_of stretch = (stretch.limit + 1) / 2

-- there is room for an address
abbrev pub FitsAddress : Stretch → Type 0
FitsAddress stretch = vec_len stretch.addresses < stretch.limit

-- with this limit there is room for an address
abbrev pub MayHave : Stretch → ℕ → Type 0
MayHave stretch limit = (vec_len stretch.addresses < limit) × (limit ≤ vec_capacity stretch.addresses)

-- no address is there, and no room is promised for one
abbrev pub IsEmptied : Stretch → Type 0
IsEmptied stretch = (stretch.addresses.items ≡ []) × (stretch.limit ≡ 0)

-- the keys are the same, and no address is left
pub record AreEmptied (old new : List Stretch) : Type 0 where
  pub count : length new ≡ length old
  pub keyed : (place : ℕ) (d : Stretch) → (slice_index_or new place d).key ≡ (slice_index_or old place d).key
  pub emptied : All IsEmptied new

abbrev pub KeysDiffer : List Stretch → Type 0
KeysDiffer stretches = AllPairs (λ one other. one.key ≡ other.key → ⊥) stretches

-- the key has the place
abbrev pub IsPlaceOf : List Stretch → Key → ℕ → Type 0
IsPlaceOf stretches key place = (place < length stretches) × ((d : Stretch) → (slice_index_or stretches place d).key ≡ key)

-- the key has the address
pub record Holds (stretches : List Stretch) (key : Key) (address : ℕ) : Type 0 where
  pub stretch : Stretch
  pub listed : Contains stretches stretch
  pub keyed : stretch.key ≡ key
  pub held : Contains stretch.addresses.items address

-- the runs are those of the addresses, in any order
pub record HaveRuns (stretches : List Stretch) (runs : List Run) : Type 0 where
  pub pairs : (key : Key) (address : ℕ) → HasPair runs key address ↔ Holds stretches key address
  pub apart : EachApart runs

-- the same pairs of key and address
abbrev pub HoldsSame : List Stretch → List Stretch → Type 0
HoldsSame old new = (key : Key) (address : ℕ) → Holds new key address ↔ Holds old key address

-- the new pairs are the old ones and this one
abbrev pub HoldsOneMore : List Stretch → List Stretch → Key → ℕ → Type 0
HoldsOneMore old new one where_to = (key : Key) (address : ℕ) → Holds new key address ↔ (Holds old key address ⊎ ((one ≡ key) × (where_to ≡ address)))
