-- The calls of an object in memory, and what one that fails leaves.
use Rattle.std.specs.Prelude.{◌≡◌, ◌↔◌, ℕ, List, ◌++◌, Contains}
use Rattle.sw_base.specs.Environment.{next_count}

-- the calls of an object: how many there were, the numbers of those that are to fail, and how many failed
pub record Counted : Type 0 where
  pub calls : ℕ
  pub failing : List ℕ
  pub faults : ℕ

-- one call more: it fails exactly where its number is to fail, and it is a fault exactly where it fails
pub record CountsCall (failed : Type 0) (old new : Counted) : Type 0 where
  pub call : new.calls ≡ next_count old.calls
  pub fails : failed ↔ Contains old.failing (next_count old.calls)
  pub fault : failed → new.faults ≡ next_count old.faults
  pub no_fault : (failed → ⊥) → new.faults ≡ old.faults
  pub same_failing : new.failing ≡ old.failing

-- a prefix of the piece stands at the end
pub record TornEnd (old new piece : List ℕ) : Type 0 where
  pub prefix : List ℕ
  pub rest : List ℕ
  pub parts : piece ≡ prefix ++ rest
  pub end : new ≡ old ++ prefix
