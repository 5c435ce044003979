-- Accesses that would race if nothing ordered them, and their line pairs. An access is a key and an address.
use Rattle.std.specs.Prelude.{◌≡◌, ◌⊎◌, ℕ, ◌+◌, ◌<◌, ◌≤◌, List, min, max, IsTrue, Contains}
use Rattle.mutex_set.specs.Held.{AreDisjoint}
use Rattle.stride_summary.specs.declared.key.Key.{Key}
use Rattle.stride_summary.specs.declared.run.Run.{Run}
use Rattle.stride_summary.specs.Run.{HasPair, SharesRunByte}

-- the access touches the byte
pub record Touches (key : Key) (address byte : ℕ) : Type 0 where
  pub from_start : address ≤ byte
  pub to_end : byte < address + key.size

-- two accesses of a common byte, one that writes, not both atomic, under no common mutex
pub record IsConflict (key : Key) (address : ℕ) (other : Key) (beside : ℕ) : Type 0 where
  pub byte : ℕ
  pub first : Touches key address byte
  pub second : Touches other beside byte
  pub writes : IsTrue key.write ⊎ IsTrue other.write
  pub not_both_atomic : IsTrue key.atomic → IsTrue other.atomic → ⊥
  pub no_mutex : AreDisjoint key.held other.held

-- the lines of two accesses, the smaller first
abbrev pub line_pair : ℕ → ℕ → ℕ × ℕ
line_pair line other = (min line other, max line other)

-- the line pair of a conflict of an access of some runs with one of others
pub record IsConflictPair (xs ys : List Run) (pair : ℕ × ℕ) : Type 0 where
  pub key : Key
  pub address : ℕ
  pub other : Key
  pub beside : ℕ
  pub first : HasPair xs key address
  pub second : HasPair ys other beside
  pub conflict : IsConflict key address other beside
  pub lines : pair ≡ line_pair key.line other.line

-- two runs with a common byte, one that writes, not both atomic, under no common mutex
pub record IsRunConflict (a b : Run) : Type 0 where
  pub shares : SharesRunByte a b
  pub writes : IsTrue a.write ⊎ IsTrue b.write
  pub not_both_atomic : IsTrue a.atomic → IsTrue b.atomic → ⊥
  pub no_mutex : AreDisjoint a.held b.held

-- the lines of two runs that conflict
pub record IsLinesOf (a b : Run) (pair : ℕ × ℕ) : Type 0 where
  pub conflict : IsRunConflict a b
  pub lines : pair ≡ line_pair a.line b.line

-- one of the elements has what is looked for
pub record OneHas {X K : Type 0} (P : X → K → Type 0) (xs : List X) (k : K) : Type 0 where
  pub one : X
  pub listed : Contains xs one
  pub has : P one k

-- the line pair of a conflict of a run with one of others
abbrev pub IsRunPair : Run → List Run → ℕ × ℕ → Type 0
IsRunPair a runs pair = OneHas (IsLinesOf a) runs pair

-- the line pair of a conflict of one of some runs with one of others
abbrev pub IsPairOfRuns : List Run → List Run → ℕ × ℕ → Type 0
IsPairOfRuns ys xs pair = OneHas (λ a. IsRunPair a ys) xs pair

-- the new pairs are the old ones and some of those with the property
pub record AddsSome (old new : List (ℕ × ℕ)) (P : ℕ × ℕ → Type 0) : Type 0 where
  pub kept : (pair : ℕ × ℕ) → Contains old pair → Contains new pair
  pub only : (pair : ℕ × ℕ) → Contains new pair → Contains old pair ⊎ P pair

-- what is new is what was before and what has the property
pub record GrowsBy {K : Type 0} (Old New P : K → Type 0) : Type 0 where
  pub kept : (k : K) → Old k → New k
  pub added : (k : K) → P k → New k
  pub only : (k : K) → New k → Old k ⊎ P k

-- the new pairs are the old ones and those with the property
abbrev pub AddsPairs : List (ℕ × ℕ) → List (ℕ × ℕ) → (ℕ × ℕ → Type 0) → Type 0
AddsPairs old new P = GrowsBy (Contains old) (Contains new) P
