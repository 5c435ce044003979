-- What the segments of a sweep are.
use Rattle.std.proofs.Common.{◌≡◌, inl, inr, ℕ, suc, ◌+◌, ◌-◌, ◌<◌, ◌≤◌, List, [], ◌∷◌, ◌++◌, length, Option, Some, refl, sym, ap, subst, ◌∙◌, arith, get_or}
use Rattle.std.specs.Prelude.{slice_get, option_map}
use Rattle.std.specs.List.{AllZip}
use Rattle.std.proofs.lemmas.List.{length-append}
use Rattle.std.proofs.lemmas.Option.{slice_get_within, slice_get-get_or, slice_get-map}
use Rattle.sw_base.specs.declared.path.Step.{Step}
use Rattle.sw_base.proofs.Lists.{get_left, get_right}
use Rattle.log_format.specs.declared.format.Format.{Format}
use Rattle.log_format.specs.declared.record.Record.{Record}
use Rattle.race_model.specs.Row.{Row}
use Rattle.race_model.specs.FirstBad.{row_of, rows_of}
use Rattle.race_model.specs.ForkJoin.{IsTask, IsTaskTree}
use Rattle.race_model.specs.IndexFault.{AreRows}
use Rattle.race_model.specs.Segment.{segments_of}
use Rattle.race_model.specs.Trace.{TaskLog, Trace, Logs, logs_of}
use Rattle.race_model.proofs.TraceLogs.{find_task, Found}
use Rattle.log_segment.specs.declared.segment.Segment.{Segment}
use Rattle.log_segment.specs.Intervals.{AreSegments, IsSegmentOf}
use Rattle.log_segment.specs.OneTree.{IsPathBefore, IsStepBefore, StandInOneTree}
use Rattle.log_segment.specs.Walking.{AddsSegments, HasLogs}
use Rattle.log_segment.proofs.InOrder.{IsOrdered, IsTaskBefore, segments_ordered}
use Rattle.log_segment.proofs.Members.{In}
use Rattle.log_segment.proofs.WholeRun.{IsTaskOf, are_segments, in_its_log}
use Rattle.log_walk.specs.GoodTrace.{IsGoodTrace}
use Rattle.log_walk.proofs.Forked.{TaskThere, forked, own_logs, path_there, task_there}
use Rattle.log_walk.proofs.RowOrder.{PathBefore, StepBefore, listing_sorted}
use Rattle.log_walk.proofs.SpanOrder.{paths_of, path_found}
use Rattle.log_walk.proofs.TaskAt.{indexed_once, logs_at}
use Rattle.log_walk.proofs.TaskReads.{contains_got, got_contains}

-- the order of a listing is that of segments
step_before : (s t : Step) → StepBefore s t → IsStepBefore s t
step_before s t (inl less) = IsStepBefore.region less
step_before s t (inr (same, less)) = IsStepBefore.lane same less

path_before : (p q : List Step) → PathBefore p q → IsPathBefore p q
path_before [] [] before = absurd before
path_before [] (t ∷ q) before = IsPathBefore.under t q
path_before (s ∷ p) [] before = absurd before
path_before (s ∷ p) (t ∷ q) (inl less) = IsPathBefore.differ s t p q (step_before s t less)
path_before (s ∷ p) (t ∷ q) (inr (same, before)) = subst (λ (u : Step). IsPathBefore (s ∷ p) (u ∷ q)) same (IsPathBefore.same s p q (path_before p q before))

in_place : {X : Type 0} (x : X) (xs : List X) → In x xs → (k : ℕ) × (slice_get xs k ≡ Some x)
in_place x [] h = absurd h
in_place x (y ∷ xs) (inl same) = (0, ap (λ z. Some z) same)
in_place x (y ∷ xs) (inr h) = let at = in_place x xs h in (suc at.0, at.1)

-- the tasks of a trace are in order
tasks_ordered : (trace : Trace) → ((i j : ℕ) (a b : TaskLog) → i < j → slice_get trace i ≡ Some a → slice_get trace j ≡ Some b → IsPathBefore a.path b.path) → IsOrdered IsTaskBefore trace
tasks_ordered [] all = tt
tasks_ordered (t ∷ trace) all = (
  λ other h. (let at = in_place other trace h in all 0 (suc at.0) t other (omega arith) refl at.1),
  tasks_ordered trace (λ i j a b less one two. all (suc i) (suc j) a b (omega arith) one two),
)

-- the segments of the last tasks of a good trace
module _ {format : Format} (rows : List Row) (trace more : Trace) (good : AreRows rows) (is : IsGoodTrace format rows (trace ++ more)) where
  at_place : (k : ℕ) (task : TaskLog) → slice_get more k ≡ Some task → slice_get (trace ++ more) (length trace + k) ≡ Some task
  at_place k task found = get_right trace more k ∙ found

  pub own_at : (logs : Logs) → HasLogs logs (trace ++ more) → (k : ℕ) (task : TaskLog) → slice_get more k ≡ Some task → logs task.path ≡ task.records
  own_at logs has k task found = has task (contains_got (trace ++ more) (length trace + k) task (at_place k task found))

  ordered : IsOrdered IsTaskBefore more
  ordered = tasks_ordered more (λ i j a b less one other.
      path_before a.path b.path (listing_sorted (paths_of rows) (length trace + i) (length trace + j) a.path b.path good.lists (omega arith)
      (path_found rows (length trace + i) (row_of a) (path_there rows (trace ++ more) (length trace + i) a is (at_place i a one)))
      (path_found rows (length trace + j) (row_of b) (path_there rows (trace ++ more) (length trace + j) b is (at_place j b other)))))

  tree : 0 < length (trace ++ more) → slice_get (paths_of rows) 0 ≡ Some [] → IsTaskTree (IsTask (logs_of (trace ++ more))) (logs_of (trace ++ more))
  tree some root_path = record {
    root = at_root (task_there rows (trace ++ more) 0 [] good is some root_path);
    forked = λ path step begun.
        (let f = find_task (trace ++ more) (path ++ step ∷ []) begun in
        forked rows (trace ++ more) (logs_of (trace ++ more)) f.index (row_of f.task) path step good is (own_logs rows (trace ++ more) good is)
        (path_there rows (trace ++ more) f.index f.task is f.found) (let within = slice_get_within (trace ++ more) f.index f.task f.found in omega arith) f.path_is);
  }
    where
      at_root : TaskThere rows (trace ++ more) 0 [] → IsTask (logs_of (trace ++ more)) []
      at_root t =
          let records : logs_of (trace ++ more) [] ≡ t.task.records = ap (logs_of (trace ++ more)) (sym t.path_is) ∙ own_logs rows (trace ++ more) good is t.task (contains_got (trace ++ more) 0 t.task t.found) in
          subst (λ (rs : List Record). 0 < length rs) (sym records) (let one = t.row_is.records.some in omega arith)

  pub one_tree : (found : List Segment) → 0 < length (trace ++ more) → slice_get (paths_of rows) 0 ≡ Some [] → AllZip (IsSegmentOf (logs_of (trace ++ more))) (segments_of more) found → StandInOneTree found
  one_tree found some root_path all = record {
    logs = logs_of (trace ++ more);
    tree = tree some root_path;
    each = λ k d within. in_its_log (logs_of (trace ++ more)) more (own_at (logs_of (trace ++ more)) (own_logs rows (trace ++ more) good is)) found all (get_or found k d)
        (contains_got found k (get_or found k d) (slice_get-get_or found k d within));
    ordered = segments_ordered (logs_of (trace ++ more)) more found ordered all;
  }

-- a whole trace has the logs of its first tasks
pub whole_logs : (rows : List Row) (first rest whole : Trace) → AreRows rows → rows_of whole ≡ rows → whole ≡ first ++ rest → HasLogs (logs_of whole) first
whole_logs rows first rest whole good rows_are parts task listed =
    let at = got_contains first task listed in
    let found : slice_get whole at.0 ≡ Some task = ap (λ (t : Trace). slice_get t at.0) parts ∙ (get_left first rest at.0 (slice_get_within first at.0 task at.1) ∙ at.1) in
    logs_at whole at.0 task (indexed_once rows whole (record { rows_are = rows_are; good = good })) found

-- segments that were added to none
pub added_none : (logs : Logs) (trace : Trace) (found : List Segment) → AddsSegments logs (segments_of trace) [] found → AllZip (IsSegmentOf logs) (segments_of trace) found
added_none logs trace found adds = subst (λ (xs : List Segment). AllZip (IsSegmentOf logs) (segments_of trace) xs) (sym adds.gains) adds.are

-- they have the accesses of the tasks, where no other task is one of these
pub segments_are : {format : Format} (rows : List Row) (trace more rest whole : Trace) (IsOne : List Step → Type 0) (found : List Segment) → AreRows rows → IsGoodTrace format rows (trace ++ more) → rows_of whole ≡ rows → whole ≡ (trace ++ more) ++ rest
    → ((k : ℕ) (row : Row) → slice_get rows k ≡ Some row → length trace ≤ k → k < length (trace ++ more) → IsOne row.path)
    → ((k : ℕ) (row : Row) → slice_get rows k ≡ Some row → IsOne row.path → (length trace ≤ k) × (k < length (trace ++ more)))
    → AllZip (IsSegmentOf (logs_of whole)) (segments_of more) found → AreSegments (logs_of whole) IsOne found
segments_are rows trace more rest whole IsOne found good is rows_are parts ones only all =
    are_segments (logs_of whole) more IsOne (own_at rows trace more good is (logs_of whole) (whole_logs rows (trace ++ more) rest whole good rows_are parts)) mine covers found all
  where
    mine : (k : ℕ) (task : TaskLog) → slice_get more k ≡ Some task → IsOne task.path
    mine k task there =
        let within = slice_get_within more k task there in
        ones (length trace + k) (row_of task) (path_there rows (trace ++ more) (length trace + k) task is (get_right trace more k ∙ there)) (omega arith) (omega (arith, within, length-append trace more))

    row_whole : (i : ℕ) (task : TaskLog) → slice_get whole i ≡ Some task → slice_get rows i ≡ Some (row_of task)
    row_whole i task there = ap (λ (rs : List Row). slice_get rs i) (sym rows_are) ∙ (slice_get-map row_of whole i ∙ ap (λ (o : Option TaskLog). option_map row_of o) there)

    covers : (path : List Step) → IsOne path → IsTask (logs_of whole) path → IsTaskOf more path
    covers path one begun = at (find_task whole path begun)
      where
        at : Found whole path → IsTaskOf more path
        at f =
            let row : slice_get rows f.index ≡ Some (row_of f.task) = row_whole f.index f.task f.found in
            let bounds = only f.index (row_of f.task) row (subst IsOne (sym f.path_is) one) in
            let place : length trace + (f.index - length trace) ≡ f.index = (let low = bounds.0 in omega arith) in
            record {
              index = f.index - length trace;
              task = f.task;
              found = sym (get_right trace more (f.index - length trace)) ∙ (ap (λ (n : ℕ). slice_get (trace ++ more) n) place
                  ∙ (sym (get_left (trace ++ more) rest f.index bounds.1) ∙ (ap (λ (t : Trace). slice_get t f.index) (sym parts) ∙ f.found)));
              path_is = f.path_is;
            }
