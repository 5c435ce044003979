-- A run with some of its accesses left out.
use Rattle.std.specs.Prelude.{◌≡◌, ℕ, suc, Bool, true, false, if◌then◌else◌, List, [], ◌∷◌, Some}
use Rattle.sw_base.specs.declared.path.Step.{Step}
use Rattle.log_format.specs.declared.record.Record.{Record}
use Rattle.race_model.specs.Trace.{Logs, Node, record_at, IsThere}
use Rattle.race_model.specs.Race.{IsAccess, IsUnordered}
use Rattle.writer_laws.specs.Places.{IsAtPlace}
use Rattle.writer_laws.specs.StandIns.{HasStandIn}

-- the records whose numbers, from 0, are kept
abbrev pub only_kept : (ℕ → Bool) → List Record → List Record
only_kept keep [] = []
only_kept keep (r ∷ records) = if keep 0 then r ∷ only_kept (λ n. keep (suc n)) records else only_kept (λ n. keep (suc n)) records

-- the access is ordered with all records, or one that is kept stands for it: in the same task after as many barriers
pub data MayBeDropped (keep : Node → Bool) (logs : Logs) (x : Node) (r : Record) : Type 0 where
  ordered : ((y : Node) → IsThere logs y → IsUnordered logs x y → ⊥) → MayBeDropped keep logs x r
  repeated : (other : HasStandIn (IsAtPlace logs logs) logs logs x r) → keep other.place ≡ true → MayBeDropped keep logs x r

-- the other run has the records that are kept; the rest are accesses, each of which may be dropped
pub record Drops (keep : Node → Bool) (logs others : Logs) : Type 0 where
  pub kept : (path : List Step) → others path ≡ only_kept (λ n. keep (record { path = path; index = n })) (logs path)
  pub accesses : (x : Node) (r : Record) → record_at logs x ≡ Some r → keep x ≡ false → IsAccess r
  pub each : (x : Node) (r : Record) → record_at logs x ≡ Some r → keep x ≡ false → MayBeDropped keep logs x r

-- the other run lacks accesses of the root alone
pub record DropsAtRoot (keep : Node → Bool) (logs others : Logs) : Type 0 where
  pub kept : (path : List Step) → others path ≡ only_kept (λ n. keep (record { path = path; index = n })) (logs path)
  pub accesses : (x : Node) (r : Record) → record_at logs x ≡ Some r → keep x ≡ false → IsAccess r
  pub at_root : (x : Node) → keep x ≡ false → x.path ≡ []
