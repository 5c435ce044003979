-- Logs that were brought over, and those that come.
use Rattle.std.proofs.Common.{◌≡◌, ◌≢◌, inr, ℕ, zero, suc, ◌+◌, ◌<◌, List, [], ◌∷◌, ◌++◌, length, get_or, take, drop, Option, Some, sym, ap, subst, ◌∙◌, arith}
use Rattle.std.specs.Prelude.{All, slice_get}
use Rattle.std.proofs.lemmas.List.{length-map, take_all}
use Rattle.std.proofs.lemmas.List.Elements.{All-take, All-weaker}
use Rattle.std.proofs.lemmas.Option.{same_Some, slice_get-get_or}
use Rattle.sw_base.specs.Environment.{Content, LeavesPrefix, with_put}
use Rattle.sw_base.specs.Names.{log_name}
use Rattle.sw_base.proofs.NameLaws.{HasPlace}
use Rattle.log_walk.proofs.RowsApart.{all_places}
use Rattle.log_format.specs.declared.format.Format.TheVariants.{First}
use Rattle.log_format.specs.declared.format.TheConstants.{FORMAT}
use Rattle.log_format.specs.Format.{log_header}
use Rattle.log_format.specs.Spelling.{log_bytes}
use Rattle.race_model.specs.FirstBad.{row_of}
use Rattle.race_model.specs.IndexFault.{IsRow}
use Rattle.race_model.specs.LogFault.{IsWholeLog}
use Rattle.race_model.specs.Row.{Row}
use Rattle.race_model.specs.Trace.{TaskLog, Trace}
use Rattle.race_model.proofs.TraceLogs.{RowTask, all_at, task_in}
use Rattle.log_index.specs.Puts.{with_tasks}
use Rattle.log_index.proofs.Putting.{HasPlaces, other_file, with_tasks-push}
use Rattle.log_upgrade.specs.Upgrade.{BringsPart, CanBring}
use Rattle.log_upgrade.proofs.Names.{log_name-dir}

-- the first tasks and the next one
take_next : (trace : Trace) (k : ℕ) (task : TaskLog) → slice_get trace k ≡ Some task → take (suc k) trace ≡ take k trace ++ task ∷ []
take_next [] k task found = cc
take_next (t ∷ trace) zero task found = ap (λ (x : TaskLog). x ∷ []) (same_Some t task found)
take_next (t ∷ trace) (suc k) task found = ap (λ (ts : Trace). t ∷ ts) (take_next trace k task found)

parts_at : (trace : Trace) (k : ℕ) (task : TaskLog) → slice_get trace k ≡ Some task → trace ≡ take k trace ++ task ∷ drop (suc k) trace
parts_at [] k task found = cc
parts_at (t ∷ trace) zero task found = ap (λ (x : TaskLog). x ∷ trace) (same_Some t task found)
parts_at (t ∷ trace) (suc k) task found = ap (λ (ts : Trace). t ∷ ts) (parts_at trace k task found)

module _ (content : Content) (dir new : List ℕ) (rows : List Row) (trace : Trace) (can : CanBring content.held dir new rows trace) (index : ℕ) (row : Row) (within : index < length rows) (is : row ≡ get_or rows index row) where
  -- the task of the next row
  pub next_task : RowTask trace index row
  next_task = task_in trace index row (ap (λ (rs : List Row). slice_get rs index) can.rows_are ∙ slice_get-get_or rows index row within ∙ ap (λ (r : Row). Some r) (sym is))

  places : All HasPlaces trace
  places = all_places trace (subst (λ (rs : List Row). All IsRow rs) (sym can.rows_are) can.good.each)

  -- the logs before it
  abbrev pub brought : Content
  brought = with_tasks new (take index trace) content

  -- its log is as it was
  pub next_log : IsWholeLog First brought.held dir row.path next_task.task.records
  next_log = record {
    there = other_file new (take index trace) (log_name dir row.path) content others ∙ (ap (λ (r : Row). content.held (log_name dir r.path)) next_task.row_is ∙ whole.there);
    tabled = whole.tabled;
  } where
    whole : IsWholeLog First content.held dir next_task.task.path next_task.task.records
    whole = all_at (λ (task : TaskLog). IsWholeLog First content.held dir task.path task.records) trace index next_task.task can.logs next_task.found

    here : All HasPlace row.path
    here = subst (λ (r : Row). All HasPlace r.path) (sym next_task.row_is) (all_at HasPlaces trace index next_task.task places next_task.found)

    others : All (λ (task : TaskLog). log_name dir row.path ≢ log_name new task.path) (take index trace)
    others = All-take (λ (task : TaskLog). log_name dir row.path ≢ log_name new task.path) index trace
        (All-weaker HasPlaces (λ (task : TaskLog). log_name dir row.path ≢ log_name new task.path) (λ task there same. can.apart (log_name-dir dir new row.path task.path here there same)) trace places)

  -- it was brought over
  pub brought_next : (now : Option Content) → now ≡ Some (with_put (log_name new row.path) (log_bytes (log_header FORMAT) next_task.task.records) brought) → now ≡ Some (with_tasks new (take (index + 1) trace) content)
  brought_next now put =
      let more : index + 1 ≡ suc index = omega arith in
      put ∙ ap (λ (r : Row). Some (with_put (log_name new r.path) (log_bytes (log_header FORMAT) next_task.task.records) brought)) next_task.row_is
      ∙ ap (λ (x : Content). Some x) (sym (with_tasks-push new (take index trace) next_task.task content))
      ∙ ap (λ (ts : Trace). Some (with_tasks new ts content)) (sym (take_next trace index next_task.task next_task.found) ∙ ap (λ (n : ℕ). take n trace) (sym more))

  -- it was broken off
  pub brought_broken : (now : Option Content) → LeavesPrefix (Some brought) now (log_name new row.path) (log_bytes (log_header FORMAT) next_task.task.records) → BringsPart new trace content now
  brought_broken now leaves = inr (record {
    first = take index trace;
    next = next_task.task;
    later = drop (suc index) trace;
    parts = parts_at trace index next_task.task next_task.found;
    leaves = subst (λ (r : Row). LeavesPrefix (Some brought) now (log_name new r.path) (log_bytes (log_header FORMAT) next_task.task.records)) next_task.row_is leaves;
  })

-- all were
pub brought_all : (content : Content) (dir new : List ℕ) (rows : List Row) (trace : Trace) → CanBring content.held dir new rows trace → (index : ℕ) → index ≡ length rows → (now : Option Content)
    → now ≡ Some (with_tasks new (take index trace) content) → now ≡ Some (with_tasks new trace content)
brought_all content dir new rows trace can index all now is =
    is ∙ ap (λ (ts : Trace). Some (with_tasks new ts content)) (take_all index trace (omega (arith, all, ap length can.rows_are, length-map trace row_of)))
