-- Accesses under no mutex, beside stretches, and their runs.
use Rattle.std.specs.Prelude.{◌≡◌, ◌↔◌, ℕ, ◌≤◌, List, [], ◌++◌, All, Contains, vec_len}
use Rattle.std.specs.Global.{Vec}
use Rattle.stride_summary.specs.declared.key.Key.{Key}
use Rattle.stride_summary.specs.declared.run.Run.{Run}
use Rattle.stride_summary.specs.declared.single.Single.{Single}
use Rattle.stride_summary.specs.declared.stretch.Stretch.{Stretch}
use Rattle.stride_summary.specs.Accesses.{single_key}
use Rattle.stride_summary.specs.Run.{AreApart, HasPair}

-- one of the accesses has the key and the address
pub record HoldsSingle (singles : List Single) (key : Key) (address : ℕ) : Type 0 where
  pub single : Single
  pub listed : Contains singles single
  pub keyed : single_key single ≡ key
  pub addressed : single.addr ≡ address

-- no access has the key of a stretch
abbrev pub AreOthers : List Single → List Stretch → Type 0
AreOthers singles stretches = All (λ stretch. (address : ℕ) → HoldsSingle singles stretch.key address → ⊥) stretches

-- there are so many stretches that an access of a key that none of them has may stand alone, if it was under no mutex
pub record MayStandAlone (most : ℕ) (stretches : Vec Stretch) (key : Key) : Type 0 where
  pub full : most ≤ vec_len stretches
  pub fresh : All (λ stretch. stretch.key ≡ key → ⊥) stretches.items
  pub free : key.held ≡ []

-- the new runs are the old ones and those of the accesses, which are apart
pub record AddsSingles (singles : List Single) (old new : List Run) : Type 0 where
  pub cuts : List Run
  pub added : new ≡ old ++ cuts
  pub pairs : (key : Key) (address : ℕ) → HasPair cuts key address ↔ HoldsSingle singles key address
  pub apart : AreApart cuts
