-- The first bad place of a folder that holds a run, where that is one barrier interval too many, is told by the run alone.
use Rattle.std.proofs.Common.{◌≡◌, refl, sym, ap, subst, ◌∙◌, ℕ, ◌+◌, List, [], ◌∷◌, ◌++◌, length, take, Some, arith}
use Rattle.std.specs.Prelude.{slice_get}
use Rattle.std.proofs.lemmas.List.{take_more, take-map}
use Rattle.std.proofs.lemmas.List.Elements.{All-take}
use Rattle.std.proofs.lemmas.Option.{same_Some, slice_get_within, get_or_from_slice_get}
use Rattle.sw_base.specs.declared.path.Step.{Step}
use Rattle.sw_base.specs.Environment.{Files}
use Rattle.sw_base.specs.Names.{log_name}
use Rattle.log_format.specs.declared.format.TheConstants.{FORMAT}
use Rattle.log_format.specs.declared.record.Record.{Record}
use Rattle.log_format.specs.Format.{log_header}
use Rattle.log_format.specs.Spelling.{log_bytes}
use Rattle.race_model.proofs.TraceLogs.{RowTask, all_at, task_in}
use Rattle.race_model.specs.BadPlace.{too_many_segments}
use Rattle.race_model.specs.FirstBad.{HoldsTrace, IsOneTooMany, row_of, rows_of, segments_in}
use Rattle.race_model.specs.LogFault.{IsWholeLog, OpensTooMany}
use Rattle.race_model.specs.Row.{Row}
use Rattle.race_model.specs.Segment.{segment_count}
use Rattle.race_model.specs.Trace.{TaskLog, Trace}
use Rattle.race_laws.proofs.FolderTrace.{same_tasks}
use Rattle.race_laws.proofs.IndexRows.{index_once}
use Rattle.race_laws.proofs.LogFaults.{same_record}
use Rattle.race_laws.proofs.LogReading.{whole_read}
use Rattle.log_walk.proofs.FirstOnce.{row_task_once}
use Rattle.log_walk.specs.Walk.{IsFirstIn, IsLogRow}
use Rattle.certify.specs.Verdicts.{OpensTheFirst}

abbrev IsWhole : Files → List ℕ → TaskLog → Type 0
IsWhole files dir task = IsWholeLog FORMAT files dir task.path task.records

module _ (tasks : Trace) (files : Files) (dir : List ℕ) (holds : HoldsTrace FORMAT files dir tasks) (path : List Step) (number : ℕ)
    (first : IsFirstIn FORMAT files dir path (λ row. too_many_segments row number)) where
  bad : IsOneTooMany FORMAT files dir (rows_of tasks) first.row number
  bad =
      let (rows, index, here) = first.first.bad in
      subst (λ (rs : List Row). IsOneTooMany FORMAT files dir rs first.row number) (index_once files dir rows (rows_of tasks) index holds.index) here

  module _ (t : RowTask tasks bad.listed.index bad.task) where
    whole : IsWhole files dir t.task
    whole = all_at (IsWhole files dir) tasks bad.listed.index t.task holds.logs t.found

    bytes_are : bad.bytes ≡ log_bytes (log_header FORMAT) t.task.records
    bytes_are = same_Some bad.bytes (log_bytes (log_header FORMAT) t.task.records) (sym bad.there ∙ (ap (λ (r : Row). files (log_name dir r.path)) t.row_is ∙ whole.there))

    earlier_are : bad.earlier ≡ take bad.listed.index tasks
    earlier_are = same_tasks files dir bad.earlier (take bad.listed.index tasks) (bad.earlier_rows ∙ take-map row_of bad.listed.index tasks) bad.earlier_logs (All-take (IsWhole files dir) bad.listed.index tasks holds.logs)

    over : OpensTooMany FORMAT (log_bytes (log_header FORMAT) t.task.records) bad.task.records (segments_in bad.earlier) number
    over = subst (λ (bs : List ℕ). OpensTooMany FORMAT bs bad.task.records (segments_in bad.earlier) number) bytes_are bad.over

    same : (slice_get t.task.records (length over.before) ≡ Some over.r) × (over.before ≡ take (length over.before) t.task.records)
    same = same_record (log_bytes (log_header FORMAT) t.task.records) bad.task.records number t.task.records [] over.before over.r (whole_read t.task.records whole.tabled)
        (omega (arith, over.at.at.counted, ap (λ (r : Row). r.records) t.row_is)) over.at

    pushed : take (length over.before + 1) t.task.records ≡ over.before ++ over.r ∷ []
    pushed =
        take_more t.task.records (length over.before) over.r (slice_get_within t.task.records (length over.before) over.r same.0)
        ∙ ap (λ (x : Record). take (length over.before) t.task.records ++ x ∷ []) (get_or_from_slice_get t.task.records (length over.before) over.r over.r same.0)
        ∙ ap (λ (rs : List Record). rs ++ over.r ∷ []) (sym same.1)

    mine : IsLogRow FORMAT files dir bad.task.path first.row
    mine = record { rows = rows_of tasks; index = holds.index; task = bad.task; listed = bad.listed; path_is = refl }

    told : OpensTheFirst tasks path number
    told = record {
      index = bad.listed.index;
      task = t.task;
      listed = t.found;
      path_is = ap (λ (r : Row). r.path) (sym t.row_is) ∙ row_task_once files dir bad.task.path path first.row mine first.is_row;
      place = length over.before;
      within = slice_get_within t.task.records (length over.before) over.r same.0;
      number_is = over.at.at.number;
      full = ap (λ (trace : Trace). segments_in trace + segment_count (take (length over.before) t.task.records)) (sym earlier_are)
          ∙ (ap (λ (rs : List Record). segments_in bad.earlier + segment_count rs) (sym same.1) ∙ over.full);
      opens = ap (λ (rs : List Record). segment_count rs) pushed ∙ (over.opens ∙ ap (λ (rs : List Record). segment_count rs + 1) same.1);
    }

  pub opens_the_first : OpensTheFirst tasks path number
  opens_the_first = told (task_in tasks bad.listed.index bad.task bad.listed.listed)
