-- What a recorder does to a run, one step after another, and the runs that it writes.
use Rattle.std.specs.Prelude.{◌⊎◌, ℕ, Bool, List, [], ◌∷◌, ◌++◌}
use Rattle.race_model.specs.Trace.{Logs, Node}
use Rattle.race_model.specs.Race.{IsRacePair}
use Rattle.writer_laws.specs.Cutting.{IsCut}
use Rattle.writer_laws.specs.Dropping.{Drops, DropsAtRoot}
use Rattle.writer_laws.specs.Guards.{DifferInLocks}
use Rattle.writer_laws.specs.Splitting.{IsSplit}
use Rattle.writer_laws.specs.Values.{DifferInValues}

-- of these logs, folders with these logs are written
pub data IsWritten : Logs → List Logs → Type 0 where
  whole : (logs : Logs) → IsWritten logs (logs ∷ [])
  dropped : (keep : Node → Bool) (logs others : Logs) (parts : List Logs) → Drops keep logs others → IsWritten others parts → IsWritten logs parts
  root_dropped : (keep : Node → Bool) (logs others : Logs) (parts : List Logs) → DropsAtRoot keep logs others → IsWritten others parts → IsWritten logs parts
  moved : (logs others : Logs) (parts : List Logs) → DifferInLocks logs others → IsWritten others parts → IsWritten logs parts
  changed : (logs others : Logs) (parts : List Logs) → DifferInValues logs others → IsWritten others parts → IsWritten logs parts
  cut : (region barriers span : ℕ) (logs others : Logs) (parts : List Logs) → IsCut region barriers span logs others → IsWritten others parts → IsWritten logs parts
  split : (logs one two : Logs) (parts more : List Logs) → IsSplit logs one two → IsWritten one parts → IsWritten two more → IsWritten logs (parts ++ more)

-- one of the runs has this race pair
abbrev pub IsPairOfParts : List Logs → ℕ × ℕ → Type 0
IsPairOfParts [] pair = ⊥
IsPairOfParts (logs ∷ parts) pair = IsRacePair logs pair ⊎ IsPairOfParts parts pair
