-- A trace whose rows and records keep every rule of a folder, told of the trace alone.
use Rattle.std.specs.Prelude.{◌≡◌, ℕ, ◌<◌, List, [], ◌∷◌, ◌++◌, length, take, slice_get, All, Option, Some}
use Rattle.sw_base.specs.declared.path.Step.{Step}
use Rattle.log_format.specs.declared.format.Format.{Format}
use Rattle.log_format.specs.declared.record.Record.{Record}
use Rattle.log_format.specs.Table.{IsTabled}
use Rattle.race_model.specs.declared.why.RecordWhy.{RecordWhy}
use Rattle.race_model.specs.IndexFault.{AreRows}
use Rattle.race_model.specs.Listing.{lane_of}
use Rattle.race_model.specs.LogFault.{Breaks, ListsSpans}
use Rattle.race_model.specs.FirstBad.{rows_of}
use Rattle.race_model.specs.Trace.{TaskLog, Trace, logs_of, barrier_count}

-- the barriers that a lane from 1 on must pass: as many as the first lane of its team
abbrev pub KnowsTeam : Trace → List Step → Option ℕ → Type 0
KnowsTeam trace path team = (above : List Step) (step : Step) → path ≡ above ++ step ∷ [] → 0 < step.lane
    → team ≡ Some (barrier_count (logs_of trace (lane_of above step.region 0 step.span)))

-- the task's records are of the table, and none breaks a rule after those before it
pub record TaskKeepsRules (format : Format) (trace : Trace) (task : TaskLog) : Type 0 where
  pub tabled : All (IsTabled format) task.records
  pub spans : List ℕ
  pub has_spans : ListsSpans (rows_of trace) task.path spans
  pub due_barriers : Option ℕ
  pub knows_team : KnowsTeam trace task.path due_barriers
  pub keeps : (k : ℕ) (r : Record) → slice_get task.records k ≡ Some r → (rule : RecordWhy)
      → Breaks (record { path = task.path; records = length task.records; spans = spans; due_barriers = due_barriers }) (take k task.records) r rule → ⊥

-- the rows are those of a well-formed index, and each task keeps the rules
pub record KeepsRules (format : Format) (trace : Trace) : Type 0 where
  pub rows : AreRows (rows_of trace)
  pub tasks : All (TaskKeepsRules format trace) trace
