-- The counts of a run.
use Rattle.std.proofs.Common.{◌≡◌, ℕ, ◌+◌, length, sum_by}
use Rattle.std.proofs.lemmas.List.Folds.{fold-map}
use Rattle.race_model.specs.FirstBad.{row_of, rows_of}
use Rattle.race_model.specs.Row.{Row}
use Rattle.race_model.specs.Trace.{TaskLog, Trace}

-- the rows of tasks have as many records
pub records_counted : (tasks : Trace) → sum_by (λ (row : Row). row.records) (rows_of tasks) ≡ sum_by (λ (task : TaskLog). length task.records) tasks
records_counted tasks = fold-map (λ (count : ℕ) (row : Row). count + row.records) row_of 0 tasks
