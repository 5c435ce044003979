-- What is known of a log of which the first records were gone over.
use Rattle.std.specs.Prelude.{◌≡◌, ℕ, ◌+◌, ◌≤◌, List, ◌++◌, length, All, Option}
use Rattle.std.specs.Option.{option_map}
use Rattle.log_format.specs.declared.format.Format.{Format}
use Rattle.log_format.specs.Format.{log_header}
use Rattle.log_format.specs.declared.record.Record.{Record}
use Rattle.log_format.specs.Spelling.{log_bytes}
use Rattle.log_format.specs.Table.{IsTabled}
use Rattle.race_model.specs.Label.{Triple}
use Rattle.race_model.specs.LogFault.{LogTask, max_segments}
use Rattle.log_segment.specs.declared.segment.Segment.{Segment}
use Rattle.log_segment.specs.declared.walking.Walk.{Walk}
use Rattle.log_segment.specs.Going.{HasWalked}
use Rattle.log_segment.specs.Walking.{IsOwnAfter}
use Rattle.log_walk.specs.declared.state.State.{State}
use Rattle.log_walk.specs.Check.{KeepsLogRules}
use Rattle.log_walk.specs.State.{IsStateAfter, IsWalkAfter}

-- what the check of a log keeps of these records, whatever bytes they were read from
pub record Checks (format : Format) (task : LogTask) (opened : ℕ) (state : State) (records : List Record) (index : ℕ) : Type 0 where
  pub tabled : All (IsTabled format) records
  pub keeps : KeepsLogRules task records
  pub follows : IsStateAfter state opened records
  pub count : length records ≡ index
  pub barriers : state.barriers ≤ index
  pub limit : state.segments ≤ max_segments

-- so many records of the log with these bytes, where they are told, were gone over, and this is left of it
pub record LogSoFar (format : Format) (bytes : Option (List ℕ)) (task : LogTask) (opened : ℕ) (label : List Triple) (state : State) (walk : Walk) (left : Option (List ℕ)) (old new : List Segment) (index : ℕ) : Type 0 where
  pub records : List Record
  pub checks : Checks format task opened state records index
  pub walked : HasWalked task.path label records walk old new
  pub own : IsOwnAfter walk.label (index + 1)
  pub after : IsWalkAfter walk records
  pub read : bytes ≡ option_map (λ rest. log_bytes (log_header format) records ++ rest) left

-- this is so of each log of which so many records may have been gone over
abbrev pub WhereSoFar : Format → LogTask → State → Walk → Option (List ℕ) → List Segment → ℕ → (Option (List ℕ) → ℕ → List Triple → List Segment → Type 0) → Type 0
WhereSoFar format task state walk left found index IsSo =
    (bytes : Option (List ℕ)) (opened : ℕ) (label : List Triple) (old : List Segment) → LogSoFar format bytes task opened label state walk left old found index → IsSo bytes opened label old
