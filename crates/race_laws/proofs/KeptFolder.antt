-- A folder that holds a trace which keeps the rules is bad at most where a segment is one too many.
use Rattle.std.proofs.Common.{◌≡◌, ℕ, List, Option, Some, refl, sym, ap, subst, ◌∙◌}
use Rattle.std.specs.Prelude.{slice_get, Contains, map, All}
use Rattle.std.proofs.lemmas.List.Elements.{All-contains, Contains-push}
use Rattle.std.proofs.lemmas.Option.{same_Some}
use Rattle.sw_base.specs.declared.path.Step.{Step}
use Rattle.sw_base.specs.Environment.{Files}
use Rattle.sw_base.specs.Names.{log_name}
use Rattle.log_format.specs.declared.format.Format.{Format}
use Rattle.log_format.specs.Format.{log_header}
use Rattle.log_format.specs.declared.record.Record.{Record}
use Rattle.log_format.specs.Spelling.{log_bytes}
use Rattle.race_model.specs.declared.why.RecordWhy.{RecordWhy}
use Rattle.race_model.specs.Row.{Row}
use Rattle.race_model.specs.Listing.{lane_of}
use Rattle.race_model.specs.Trace.{TaskLog, Trace, logs_of, barrier_count}
use Rattle.race_model.specs.IndexFault.{IsStep, IsIndex}
use Rattle.race_model.specs.BadPlace.{BadPlace, no_index, bad_row, missing_log, bad_record, too_many_segments, IsTooMany}
use Rattle.race_model.specs.LogFault.{ListsSpans, IsLogFault, HasTeamBarriers, IsMissingLog, IsBadRecord}
use Rattle.race_model.specs.FirstBad.{HoldsTrace, IsBad, rows_of}
use Rattle.race_model.specs.KeepsRules.{KnowsTeam, TaskKeepsRules, KeepsRules}
use Rattle.race_laws.proofs.IndexPlaces.{index_good}
use Rattle.race_laws.proofs.IndexRows.{index_once}
use Rattle.race_laws.proofs.Listed.{beside_listed}
use Rattle.race_model.proofs.TraceLogs.{all_at, task_in}
use Rattle.race_laws.proofs.HeldLogs.{held_log}
use Rattle.race_laws.proofs.LogOnce.{log_once, spans_once}
use Rattle.race_laws.proofs.LogReading.{whole_read}
use Rattle.race_laws.proofs.LogFaults.{no_fault_whole, other_team}
use Rattle.race_laws.proofs.FolderRules.{log_task}
use Rattle.race_laws.proofs.FolderTrace.{Whole}
use Rattle.race_laws.proofs.FolderForkJoin.{path_at, row_all, has_begun}

module _ {format : Format} (files : Files) (dir : List ℕ) (trace : Trace) (good : KeepsRules format trace) (holds : HoldsTrace format files dir trace) where
  no_missing : (row : ℕ) → IsMissingLog files dir (rows_of trace) row → ⊥
  no_missing row bad =
      let at = task_in trace bad.listed.index bad.task bad.listed.listed in
      let whole = all_at (Whole format files dir) trace bad.listed.index at.task holds.logs at.found in
      let there : files (log_name dir bad.task.path) ≡ Some (log_bytes (log_header format) at.task.records) = ap (λ (r : Row). files (log_name dir r.path)) at.row_is ∙ whole.there in
      cc (there, bad.missing)

  -- the barriers that the folder tells of a task's team are those that the trace tells
  same_team : (path : List Step) (team told : Option ℕ) → All IsStep path → Contains (map (λ (row : Row). row.path) (rows_of trace)) path → KnowsTeam trace path team
      → ((barriers : ℕ) → told ≡ Some barriers → HasTeamBarriers format files dir path barriers) → (barriers : ℕ) → told ≡ Some barriers → team ≡ Some barriers
  same_team path team told steps listed knows has barriers is =
      let it = has barriers is in
      let step : IsStep it.step = All-contains IsStep _ it.step (subst (λ (p : List Step). All IsStep p) it.path_is steps) (Contains-push it.above it.step) in
      let first : List Step = lane_of it.above it.step.region 0 it.step.span in
      let beside : Contains (map (λ (row : Row). row.path) (rows_of trace)) first
      = beside_listed (map (λ (row : Row). row.path) (rows_of trace)) it.above it.step.region it.step.lane 0 it.step.span good.rows.lists
      (subst (λ (p : List Step). Contains (map (λ (row : Row). row.path) (rows_of trace)) p) it.path_is listed) step.span.some in
      let records : logs_of trace first ≡ it.records
      = log_once files dir first (logs_of trace first) it.records (held_log files dir trace holds first (has_begun trace good.rows first beside)) it.log_of_first in
      knows it.above it.step it.path_is it.from_one ∙ ap (λ (rs : List Record). Some (barrier_count rs)) records ∙ ap (λ (n : ℕ). Some n) (sym it.counted)

  -- what the folder tells of the log of a task is told of the task
  no_fault_told : (index : ℕ) (task : TaskLog) (spans : List ℕ) (team : Option ℕ) (n : ℕ) (rule : RecordWhy) → slice_get trace index ≡ Some task → ListsSpans (rows_of trace) task.path spans
      → ((barriers : ℕ) → team ≡ Some barriers → HasTeamBarriers format files dir task.path barriers) → IsLogFault format (log_bytes (log_header format) task.records) (log_task task spans team) n rule → ⊥
  no_fault_told index task spans team n rule found has_spans has_team fault =
      let keeps = all_at (TaskKeepsRules format trace) trace index task good.tasks found in
      let row = row_all trace index task good.rows.each found in
      let beside : IsLogFault format (log_bytes (log_header format) task.records) (log_task task keeps.spans team) n rule
      = subst (λ (ss : List ℕ). IsLogFault format (log_bytes (log_header format) task.records) (log_task task ss team) n rule) (spans_once (rows_of trace) task.path spans keeps.spans has_spans keeps.has_spans) fault in
      no_fault_whole (log_bytes (log_header format) task.records) (log_task task keeps.spans keeps.due_barriers) task.records n rule (whole_read task.records keeps.tabled) keeps.keeps refl
      (other_team format (log_bytes (log_header format) task.records) (log_task task keeps.spans team) keeps.due_barriers n rule
      (same_team task.path keeps.due_barriers team row.steps (path_at trace index task found) keeps.knows_team has_team) beside)

  no_bad_record : (row n : ℕ) (rule : RecordWhy) → IsBadRecord format files dir (rows_of trace) row n rule → ⊥
  no_bad_record row n rule bad =
      let at = task_in trace bad.listed.index bad.task bad.listed.listed in
      let whole = all_at (Whole format files dir) trace bad.listed.index at.task holds.logs at.found in
      let path : bad.task.path ≡ at.task.path = ap (λ (r : Row). r.path) at.row_is in
      let bytes : bad.bytes ≡ log_bytes (log_header format) at.task.records
      = same_Some bad.bytes (log_bytes (log_header format) at.task.records) (sym bad.there ∙ (ap (λ (p : List Step). files (log_name dir p)) path ∙ whole.there)) in
      no_fault_told bad.listed.index at.task bad.spans bad.due_barriers n rule at.found
      (subst (λ (p : List Step). ListsSpans (rows_of trace) p bad.spans) path bad.has_spans)
      (λ barriers is. subst (λ (p : List Step). HasTeamBarriers format files dir p barriers) path (bad.has_team barriers is))
      (subst (λ (bs : List ℕ). IsLogFault format bs (log_task at.task bad.spans bad.due_barriers) n rule) bytes
      (subst (λ (r : Row). IsLogFault format bad.bytes (record { path = r.path; records = r.records; spans = bad.spans; due_barriers = bad.due_barriers }) n rule) at.row_is bad.fault))

  -- the folder's rows are the trace's
  same_rows : (rows : List Row) → IsIndex format files dir rows → rows ≡ rows_of trace
  same_rows rows index = index_once files dir rows (rows_of trace) index holds.index

  pub kept_bad : (place : BadPlace) → IsBad format files dir place → IsTooMany place
  kept_bad no_index bad = absurd (index_good files dir (rows_of trace) no_index holds.index bad)
  kept_bad (bad_row n rule) bad = absurd (index_good files dir (rows_of trace) (bad_row n rule) holds.index bad)
  kept_bad (missing_log row) (rows, index, bad) = no_missing row (subst (λ (rs : List Row). IsMissingLog files dir rs row) (same_rows rows index) bad)
  kept_bad (bad_record row n rule) (rows, index, bad) = no_bad_record row n rule (subst (λ (rs : List Row). IsBadRecord format files dir rs row n rule) (same_rows rows index) bad)
  kept_bad (too_many_segments row n) bad = tt
