-- The first bad place of a folder.
use Rattle.std.specs.Prelude.{◌≡◌, ℕ, List, length, take, map, sum_by, All, Some}
use Rattle.sw_base.specs.Environment.{Files}
use Rattle.sw_base.specs.Names.{log_name}
use Rattle.log_format.specs.declared.format.Format.{Format}
use Rattle.race_model.specs.Row.{Row}
use Rattle.race_model.specs.IndexFault.{IsIndex, IsBadIndexPlace}
use Rattle.race_model.specs.Trace.{TaskLog, Trace}
use Rattle.race_model.specs.Segment.{segment_count}
use Rattle.race_model.specs.BadPlace.{BadPlace, no_index, bad_row, missing_log, bad_record, too_many_segments, IsEarlier}
use Rattle.race_model.specs.LogFault.{IsWholeLog, RowAt, OpensTooMany, IsMissingLog, IsBadRecord}

abbrev pub row_of : TaskLog → Row
row_of task = record { path = task.path; records = length task.records }

-- the index that a trace has
abbrev pub rows_of : Trace → List Row
rows_of trace = map row_of trace

-- each task's log is whole, and has the task's records
abbrev pub HoldsLogs : Format → Files → List ℕ → Trace → Type 0
HoldsLogs format files dir trace = All (λ (task : TaskLog). IsWholeLog format files dir task.path task.records) trace

-- the folder's index and logs are those of the trace
pub record HoldsTrace (format : Format) (files : Files) (dir : List ℕ) (trace : Trace) : Type 0 where
  pub index : IsIndex format files dir (rows_of trace)
  pub logs : HoldsLogs format files dir trace

-- how many segments the logs of a trace have
abbrev pub segments_in : Trace → ℕ
segments_in trace = sum_by (λ (task : TaskLog). segment_count task.records) trace

-- record n of the row's log opens one segment too many, counted over the logs in row order
pub record IsOneTooMany (format : Format) (files : Files) (dir : List ℕ) (rows : List Row) (row n : ℕ) : Type 0 where
  pub task : Row
  pub listed : RowAt rows row task
  pub bytes : List ℕ
  pub there : files (log_name dir task.path) ≡ Some bytes
  pub earlier : Trace
  pub earlier_rows : rows_of earlier ≡ take listed.index rows
  pub earlier_logs : HoldsLogs format files dir earlier
  pub over : OpensTooMany format bytes task.records (segments_in earlier) n

-- a fact on the rows of the folder's index, where it has a good one
abbrev pub AtRows : Format → Files → List ℕ → (List Row → Type 0) → Type 0
AtRows format files dir P = (rows : List Row) × IsIndex format files dir rows × P rows

-- the folder is bad at this place
abbrev pub IsBad : Format → Files → List ℕ → BadPlace → Type 0
IsBad format files dir no_index = IsBadIndexPlace format files dir no_index
IsBad format files dir (bad_row n rule) = IsBadIndexPlace format files dir (bad_row n rule)
IsBad format files dir (missing_log row) = AtRows format files dir (λ (rows : List Row). IsMissingLog files dir rows row)
IsBad format files dir (bad_record row n rule) = AtRows format files dir (λ (rows : List Row). IsBadRecord format files dir rows row n rule)
IsBad format files dir (too_many_segments row n) = AtRows format files dir (λ (rows : List Row). IsOneTooMany format files dir rows row n)

-- the folder is bad at this place, and at no earlier one
pub record IsFirstBad (format : Format) (files : Files) (dir : List ℕ) (place : BadPlace) : Type 0 where
  pub bad : IsBad format files dir place
  pub least : (other : BadPlace) → IsEarlier other place → IsBad format files dir other → ⊥
