-- What the log of the next row tells of the folder.
use Rattle.std.proofs.Common.{◌≡◌, ℕ, ◌+◌, List, length, Option, Some, None, refl, sym, ap, subst, ◌∙◌}
use Rattle.std.specs.Prelude.{slice_get}
use Rattle.sw_base.specs.declared.path.Step.{Step}
use Rattle.sw_base.specs.Environment.{Files, Content}
use Rattle.sw_base.specs.Names.{log_name}
use Rattle.log_format.specs.declared.format.Format.{Format}
use Rattle.log_format.specs.declared.record.Record.{Record}
use Rattle.race_model.specs.declared.why.RecordWhy.{RecordWhy}
use Rattle.race_model.specs.Row.{Row}
use Rattle.race_model.specs.Segment.{segment_count}
use Rattle.race_model.specs.Trace.{Trace}
use Rattle.race_model.specs.LogFault.{LogTask, IsLogFault, IsWholeLog, OpensTooMany}
use Rattle.race_model.specs.FirstBad.{segments_in}
use Rattle.race_model.specs.BadPlace.{record_rank, last_rank}
use Rattle.log_walk.specs.declared.check.LogFault.{LogFault}
use Rattle.log_walk.specs.declared.check.LogFault.TheVariants as log_fault
use Rattle.log_walk.specs.declared.fault.WalkFault.TheVariants as fault
use Rattle.log_walk.specs.Check.{KeepsLogRules, NothingBefore, IsGoodLog, IsLogRefused}
use Rattle.log_walk.specs.GoodTrace.{log_task}
use Rattle.log_walk.specs.Walk.{of_log, Walked, IsTaskOf, IsNextTask, IsLogRow, TellsFirstBad, IsUnread, RefusesLogOf}
use Rattle.log_walk.specs.declared.fault.WalkFault.{WalkFault}
use Rattle.log_walk.proofs.Places.{NextLog, row_task, missing_first, record_first, over_first}

-- the rules of a row's log, whatever record they stand in
task_is : (rows : List Row) (earlier : Trace) (row : Row) (task : LogTask) → IsTaskOf rows earlier row task → task ≡ row_task row task.spans task.due_barriers
task_is rows earlier row task is = λ i. record { path = is.path i; records = is.records i; spans = task.spans; due_barriers = task.due_barriers }

-- a good log is that of the next task
pub next_task : {format : Format} (rows : List Row) (earlier : Trace) (row : Row) (task : LogTask) (bytes : List ℕ) (opened : ℕ) (records : List Record) (segments : ℕ) → IsTaskOf rows earlier row task → opened ≡ segments_in earlier
    → IsGoodLog format bytes task opened records segments → IsNextTask format rows earlier row records segments
next_task rows earlier row task bytes opened records segments is opened_is good = record {
  good = record {
    spans = task.spans;
    has_spans = is.spans;
    due_barriers = task.due_barriers;
    has_team = is.team;
    tabled = good.tabled;
    keeps = subst (λ (t : LogTask). KeepsLogRules t records) same good.keeps;
  };
  counted = good.counted ∙ is.records;
  sum = good.sum ∙ ap (λ (n : ℕ). n + segment_count records) opened_is;
  limit = good.limit;
} where
  same : task ≡ log_task (record { path = row.path; records = records }) task.spans task.due_barriers
  same = λ i. record { path = is.path i; records = sym good.counted i; spans = task.spans; due_barriers = task.due_barriers }

-- and its log is whole
pub next_whole : {format : Format} (files : Files) (dir : List ℕ) (rows : List Row) (earlier : Trace) (row : Row) (task : LogTask) (bytes : List ℕ) (opened : ℕ) (records : List Record) (segments : ℕ) → IsTaskOf rows earlier row task
    → files (log_name dir row.path) ≡ Some bytes → IsGoodLog format bytes task opened records segments → IsWholeLog format files dir row.path records
next_whole files dir rows earlier row task bytes opened records segments is there good = record { there = there ∙ ap (λ (bs : List ℕ). Some bs) good.whole; tabled = good.tabled }

next_log : (files : Files) (dir : List ℕ) (rows : List Row) (trace : Trace) (row : Row) (task : LogTask) (bytes : List ℕ) → slice_get rows (length trace) ≡ Some row → IsTaskOf rows trace row task
    → files (log_name dir row.path) ≡ Some bytes → NextLog files dir rows trace row bytes task.spans task.due_barriers
next_log files dir rows trace row task bytes found is there = record { listed = found; there = there; has_spans = is.spans; has_team = is.team }

first_in : {format : Format} (files : Files) (dir : List ℕ) (rows : List Row) (trace : Trace) (row : Row) → Walked format files dir rows trace → slice_get rows (length trace) ≡ Some row → IsLogRow format files dir row.path (length trace + 1)
first_in files dir rows trace row walked found = record { rows = rows; index = walked.index; task = row; listed = record { index = length trace; number = refl; listed = found }; path_is = refl }

-- the next log is missing
pub missing_told : {format : Format} (files : Files) (dir : List ℕ) (rows : List Row) (trace : Trace) (row : Row) → Walked format files dir rows trace → slice_get rows (length trace) ≡ Some row
    → files (log_name dir row.path) ≡ None → TellsFirstBad format files dir (fault.MissingLog row.path)
missing_told files dir rows trace row walked found missing = record {
  row = length trace + 1;
  is_row = first_in files dir rows trace row walked found;
  first = missing_first files dir rows trace row walked found missing;
}

-- or bad
pub record_told : {format : Format} (files : Files) (dir : List ℕ) (rows : List Row) (trace : Trace) (row : Row) (task : LogTask) (bytes : List ℕ) (opened n : ℕ) (rule : RecordWhy) → Walked format files dir rows trace → slice_get rows (length trace) ≡ Some row
    → IsTaskOf rows trace row task → files (log_name dir row.path) ≡ Some bytes → opened ≡ segments_in trace → IsLogRefused format bytes task opened (log_fault.Bad n rule) → TellsFirstBad format files dir (fault.BadRecord row.path n rule)
record_told {format} files dir rows trace row task bytes opened n rule walked found is there opened_is refused =
    let same = task_is rows trace row task is in
    record {
      row = length trace + 1;
      is_row = first_in files dir rows trace row walked found;
      first = record_first files dir rows trace row bytes task.spans task.due_barriers n rule walked (next_log files dir rows trace row task bytes found is there)
          (subst (λ (t : LogTask). IsLogFault format bytes t n rule) same refused.0)
          (subst (λ (k : ℕ). NothingBefore format bytes (row_task row task.spans task.due_barriers) k n (record_rank rule)) opened_is
          (subst (λ (t : LogTask). NothingBefore format bytes t opened n (record_rank rule)) same refused.1));
    }

-- or has one segment too many
pub over_told : {format : Format} (files : Files) (dir : List ℕ) (rows : List Row) (trace : Trace) (row : Row) (task : LogTask) (bytes : List ℕ) (opened n : ℕ) → Walked format files dir rows trace → slice_get rows (length trace) ≡ Some row
    → IsTaskOf rows trace row task → files (log_name dir row.path) ≡ Some bytes → opened ≡ segments_in trace → IsLogRefused format bytes task opened (log_fault.TooMany n) → TellsFirstBad format files dir (fault.TooManySegments row.path n)
over_told {format} files dir rows trace row task bytes opened n walked found is there opened_is refused =
    let same = task_is rows trace row task is in
    record {
      row = length trace + 1;
      is_row = first_in files dir rows trace row walked found;
      first = over_first files dir rows trace row bytes task.spans task.due_barriers n walked (next_log files dir rows trace row task bytes found is there)
          (subst (λ (k : ℕ). OpensTooMany format bytes row.records k n) opened_is (subst (λ (m : ℕ). OpensTooMany format bytes m opened n) is.records refused.0))
          (subst (λ (k : ℕ). NothingBefore format bytes (row_task row task.spans task.due_barriers) k n last_rank) opened_is
          (subst (λ (t : LogTask). NothingBefore format bytes t opened n last_rank) same refused.1));
    }

-- the log of the next row wasn't read
pub unread_told : {format : Format} (told : Option Content) (content : Content) (dir : List ℕ) (rows : List Row) (trace : Trace) (row : Row) (unread : WalkFault) → told ≡ Some content → Walked format content.held dir rows trace
    → slice_get rows (length trace) ≡ Some row → IsUnread told dir row.path unread → TellsFirstBad format content.held dir unread
unread_told {format} told content dir rows trace row (fault.MissingLog path) is walked found (same, where_told) =
    subst (λ (p : List Step). TellsFirstBad format content.held dir (fault.MissingLog p)) (sym same) (missing_told content.held dir rows trace row walked found (where_told content is))
unread_told told content dir rows trace row fault.ReadFault is walked found unread = tt
unread_told told content dir rows trace row fault.Memory is walked found unread = tt
unread_told told content dir rows trace row _ is walked found unread = absurd unread

-- the log of the next row was refused
pub log_told : {format : Format} (files : Files) (dir : List ℕ) (rows : List Row) (trace : Trace) (row : Row) (task : LogTask) (bytes : List ℕ) (opened : ℕ) (refusal : LogFault) → Walked format files dir rows trace → slice_get rows (length trace) ≡ Some row
    → IsTaskOf rows trace row task → files (log_name dir row.path) ≡ Some bytes → opened ≡ segments_in trace → IsLogRefused format bytes task opened refusal → TellsFirstBad format files dir (of_log row.path refusal)
log_told files dir rows trace row task bytes opened (log_fault.Bad n rule) walked found is there opened_is refused = record_told files dir rows trace row task bytes opened n rule walked found is there opened_is refused
log_told files dir rows trace row task bytes opened (log_fault.TooMany n) walked found is there opened_is refused = over_told files dir rows trace row task bytes opened n walked found is there opened_is refused
log_told files dir rows trace row task bytes opened log_fault.ReadFault walked found is there opened_is refused = tt
log_told files dir rows trace row task bytes opened log_fault.Memory walked found is there opened_is refused = tt

-- a refusal of the row's log names it
pub unread_of : (told : Option Content) (dir : List ℕ) (path other : List Step) (unread : WalkFault) → path ≡ other → IsUnread told dir path unread → RefusesLogOf (λ (p : List Step). p ≡ other) unread
unread_of told dir path other fault.NoIndex same unread = absurd unread
unread_of told dir path other (fault.BadIndex row why) same unread = absurd unread
unread_of told dir path other (fault.MissingLog missing) same (is, there) = is ∙ same
unread_of told dir path other (fault.BadRecord p n why) same unread = absurd unread
unread_of told dir path other (fault.TooManySegments p n) same unread = absurd unread
unread_of told dir path other fault.ReadFault same unread = tt
unread_of told dir path other fault.Memory same unread = tt

pub refused_of : (path other : List Step) (refusal : LogFault) → path ≡ other → RefusesLogOf (λ (p : List Step). p ≡ other) (of_log path refusal)
refused_of path other (log_fault.Bad n rule) same = same
refused_of path other (log_fault.TooMany n) same = same
refused_of path other log_fault.ReadFault same = tt
refused_of path other log_fault.Memory same = tt
