-- The fork of a task whose parent's log was gone over, and the task's first label.
use Rattle.std.proofs.Common.{◌≡◌, ◌≢◌, ◌⊎◌, inl, inr, ℕ, ◌+◌, ◌<◌, ◌≤◌, cond, List, [], ◌∷◌, ◌++◌, length, take, Option, Some, None, refl, sym, ap, subst, ◌∙◌, arith, All}
use Rattle.std.specs.Prelude.{slice_get, option_map, Contains}
use Rattle.std.specs.Global.{Vec}
use Rattle.std.proofs.lemmas.Bool.{cases_order}
use Rattle.std.proofs.lemmas.List.{take_at, length_push}
use Rattle.std.proofs.lemmas.List.Sums.{sum_by-take-le}
use Rattle.std.proofs.lemmas.List.Elements.{All-contains, Contains-push}
use Rattle.std.proofs.lemmas.Option.{same_Some, slice_get_within, slice_get-map, get_or_from_slice_get}
use Rattle.sw_base.specs.declared.path.Step.{Step}
use Rattle.sw_base.proofs.Lists.{get_seam}
use Rattle.log_format.specs.declared.format.Format.{Format}
use Rattle.log_format.specs.declared.record.Record.{Record}
use Rattle.log_format.specs.declared.record.Kind.TheVariants.{Region, End}
use Rattle.race_model.specs.declared.why.RecordWhy.TheVariants as log
use Rattle.race_model.specs.Row.{Row}
use Rattle.race_model.specs.IndexFault.{AreRows, IsRow, IsStep}
use Rattle.race_model.specs.Label.{Triple, IsLabel}
use Rattle.race_model.specs.LogFault.{LogTask}
use Rattle.race_model.specs.FirstBad.{row_of}
use Rattle.race_model.specs.Trace.{TaskLog, Trace, Logs, logs_of, region_count, is_region_kind}
use Rattle.race_model.specs.ForkJoin.{WasForked}
use Rattle.race_laws.proofs.Counts.{count_finds, Counted, below_later, is_end, region_from_true}
use Rattle.race_laws.proofs.LabelPlace.{has_last, HasLast}
use Rattle.race_laws.proofs.Listed.{above_listed}
use Rattle.race_model.proofs.TraceLogs.{task_in}
use Rattle.race_laws.proofs.FolderRules.{region_of}
use Rattle.log_segment.specs.Stack.{HasForks}
use Rattle.log_segment.specs.Walking.{AreForks, HasLogs, IsOwnAfter}
use Rattle.log_segment.proofs.Stacks.{Fork, fork_there, lane_first, root_first}
use Rattle.log_walk.specs.Check.{KeepsLogRules}
use Rattle.log_walk.specs.GoodTrace.{IsGoodTask, IsGoodTrace, log_task}
use Rattle.log_walk.specs.Stack.{KnowsForks}
use Rattle.log_walk.specs.declared.stack.Stack.{Stack}
use Rattle.log_walk.proofs.Places.{slice_get_take}
use Rattle.log_walk.proofs.RowOrder.{listing_sorted, listed_once}
use Rattle.log_walk.proofs.SpanOrder.{paths_of, row_path, path_found, contains_at, place_of, not_before_above}
use Rattle.log_walk.proofs.TaskAt.{IsOnce, logs_at}
use Rattle.log_walk.proofs.TaskReads.{got_contains}

not_not_same : (m n : ℕ) → ((m ≢ n) → ⊥) → m ≡ n
not_not_same m n h = at (same_or_not m n) where
  same_or_not : (a b : ℕ) → (a ≡ b) ⊎ (a ≢ b)
  same_or_not a b = grind arith

  at : (m ≡ n) ⊎ (m ≢ n) → m ≡ n
  at (inl e) = e
  at (inr ne) = absurd (h ne)

-- a log that keeps the rules forks all listed regions
forks_all : (records : List Record) (task : LogTask) (region : ℕ) → KeepsLogRules task records → task.records ≡ length records → region < length task.spans → HasLast records → region < region_count records
forks_all records task region keeps counted within l = below_later region (length task.spans) (region_count l.prefix) (region_count records) within fewer up
  where
    before : take (length l.prefix) records ≡ l.prefix
    before = ap (λ (rs : List Record). take (length l.prefix) rs) l.parts ∙ take_at l.prefix (l.last ∷ []) (length l.prefix) refl

    found : slice_get records (length l.prefix) ≡ Some l.last
    found = subst (λ (rs : List Record). slice_get rs (length l.prefix) ≡ Some l.last) (sym l.parts) (get_seam l.prefix l.last [])

    number : length l.prefix + 1 ≡ task.records
    number = sym (counted ∙ (ap length l.parts ∙ length_push l.prefix l.last))

    fewer : region_count l.prefix < length task.spans → ⊥
    fewer less = at (is_end l.last.kind) where
      at : (l.last.kind ≡ End) ⊎ (l.last.kind ≢ End) → ⊥
      at (inl e) = keeps.each (length l.prefix) l.last found log.RegionRows (inr (e, subst (λ (rs : List Record). region_count rs < length task.spans) (sym before) less))
      at (inr ne) = keeps.each (length l.prefix) l.last found log.EndMissing (ne, subst (λ (rs : List Record). length rs + 1 ≡ task.records) (sym before) number)

    up : region_count l.prefix ≤ region_count records
    up = subst (λ (rs : List Record). region_count rs ≤ region_count records) before (sum_by-take-le (λ (r : Record). cond (is_region_kind r.kind) 1 0) records (length l.prefix))

-- one with its span
forked_by : (logs : Logs) (path : List Step) (step : Step) (records : List Record) (task : LogTask) → logs path ≡ records → KeepsLogRules task records → task.records ≡ length records
    → slice_get task.spans step.region ≡ Some step.span → HasLast records → step.lane < step.span → WasForked logs path step
forked_by logs path step records task is_log keeps counted listed l in_span = build (count_finds (λ (r : Record). is_region_kind r.kind) records step.region
    (forks_all records task step.region keeps counted (slice_get_within task.spans step.region step.span listed) l))
  where
    build : Counted (λ (r : Record). is_region_kind r.kind) records step.region → WasForked logs path step
    build c =
        let is_region : c.item.kind ≡ Region = region_from_true c.item.kind c.counts in
        let value : c.item.value ≡ step.span = not_not_same c.item.value step.span
        (λ ne. keeps.each c.index c.item c.found log.RegionRows (inl (is_region, (λ also. ne (same_Some c.item.value step.span (sym also ∙ (ap (λ (n : ℕ). slice_get task.spans n) c.before ∙ listed))))))) in
        record {
          fork = record { path = path; index = c.index };
          above = refl;
          lane = record {
            event = c.item;
            found = subst (λ (rs : List Record). slice_get rs c.index ≡ Some c.item) (sym is_log) c.found;
            region = is_region;
            spans = value;
            in_span = in_span;
            child = ap (λ (n : ℕ). path ++ record { region = n; lane = step.lane; span = step.span } ∷ []) (sym (ap (λ (rs : List Record). region_count (take c.index rs)) is_log ∙ c.before));
          };
        }

-- the tasks of the first rows
pub record TaskThere (rows : List Row) (trace : Trace) (i : ℕ) (path : List Step) : Type 0 where
  pub task : TaskLog
  pub found : slice_get trace i ≡ Some task
  pub path_is : task.path ≡ path
  pub row_is : IsRow (row_of task)

pub row_at : (rows : List Row) (k : ℕ) (row : Row) → AreRows rows → slice_get rows k ≡ Some row → IsRow row
row_at rows k row good found = subst IsRow (get_or_from_slice_get rows k row row found) (good.each k row (slice_get_within rows k row found))

pub task_there : {format : Format} (rows : List Row) (trace : Trace) (i : ℕ) (path : List Step) → AreRows rows → IsGoodTrace format rows trace → i < length trace → slice_get (paths_of rows) i ≡ Some path → TaskThere rows trace i path
task_there rows trace i path good is less found_path = from_rows (slice_get rows i) refl
  where
    from_rows : (o : Option Row) → slice_get rows i ≡ o → TaskThere rows trace i path
    from_rows None missing = let clash : None ≡ Some path = sym (slice_get-map row_path rows i ∙ ap (λ (o : Option Row). option_map row_path o) missing) ∙ found_path in cc clash
    from_rows (Some row) there =
        let at = task_in trace i row (ap (λ (rs : List Row). slice_get rs i) is.rows_are ∙ slice_get_take (length trace) rows i less ∙ there) in
        record {
          task = at.task;
          found = at.found;
          path_is = sym (ap row_path at.row_is) ∙ same_Some row.path path (sym (path_found rows i row there) ∙ found_path);
          row_is = subst IsRow at.row_is (row_at rows i row good there);
        }

pub path_there : {format : Format} (rows : List Row) (trace : Trace) (i : ℕ) (task : TaskLog) → IsGoodTrace format rows trace → slice_get trace i ≡ Some task → slice_get rows i ≡ Some (row_of task)
path_there rows trace i task is found =
    sym (slice_get_take (length trace) rows i (slice_get_within trace i task found))
    ∙ (ap (λ (rs : List Row). slice_get rs i) (sym is.rows_are) ∙ (slice_get-map row_of trace i ∙ ap (λ (o : Option TaskLog). option_map row_of o) found))

-- each task's records are found at its path
pub own_logs : {format : Format} (rows : List Row) (trace : Trace) → AreRows rows → IsGoodTrace format rows trace → HasLogs (logs_of trace) trace
own_logs rows trace good is task listed = let at = got_contains trace task listed in logs_at trace at.0 task once at.1
  where
    once : IsOnce trace
    once i j a b one other same =
        listed_once (paths_of rows) i j a.path good.lists (path_found rows i (row_of a) (path_there rows trace i a is one))
        (path_found rows j (row_of b) (path_there rows trace j b is other) ∙ ap (λ (p : List Step). Some p) (sym same))

-- a task of the first rows, or the next, was forked
pub forked : {format : Format} (rows : List Row) (trace : Trace) (logs : Logs) (k : ℕ) (row : Row) (above : List Step) (step : Step) → AreRows rows → IsGoodTrace format rows trace → HasLogs logs trace
    → slice_get rows k ≡ Some row → k ≤ length trace → row.path ≡ above ++ step ∷ [] → WasForked logs above step
forked {format} rows trace logs k row above step good is has found within path_is = build (task_there rows trace parent.0 above good is (omega (arith, before)) parent.1)
  where
    here : slice_get (paths_of rows) k ≡ Some (above ++ step ∷ [])
    here = path_found rows k row found ∙ ap (λ (p : List Step). Some p) path_is

    parent : (i : ℕ) × (slice_get (paths_of rows) i ≡ Some above)
    parent = place_of (paths_of rows) above (above_listed (paths_of rows) above step good.lists (contains_at (paths_of rows) k _ here))

    before : parent.0 < k
    before = elim (cases_order parent.0 k) [
      | inl same ↦
          let clash : above ≡ above ++ step ∷ [] = same_Some above _ (sym parent.1 ∙ ap (λ (n : ℕ). slice_get (paths_of rows) n) same ∙ here) in
          absurd (omega (arith, ap (λ (p : List Step). length p) clash, length_push above step))
      | inr either ↦ elim either [
        | inl less ↦ less
        | inr more ↦ absurd (not_before_above above step (listing_sorted (paths_of rows) k parent.0 _ _ good.lists more here parent.1))
      ]
    ]

    lane : step.lane < step.span
    lane =
        let row_is : IsRow row = row_at rows k row good found in
        let one : IsStep step = All-contains IsStep (above ++ step ∷ []) step (subst (λ (p : List Step). All IsStep p) path_is row_is.steps) (Contains-push above step) in
        one.lane

    some : (records : List Record) → 1 ≤ length records → (records ≡ []) ⊎ HasLast records → HasLast records
    some records one (inl none) = absurd (omega (arith, ap (λ (rs : List Record). length rs) none))
    some records one (inr l) = l

    build : TaskThere rows trace parent.0 above → WasForked logs above step
    build t =
        let task_is : IsGoodTask format rows (take parent.0 trace) t.task = is.each parent.0 t.task t.found in
        let listed : Contains (paths_of rows) (t.task.path ++ step ∷ []) = subst (λ (p : List Step). Contains (paths_of rows) (p ++ step ∷ [])) (sym t.path_is) (contains_at (paths_of rows) k _ here) in
        let span : slice_get task_is.spans step.region ≡ Some step.span = (task_is.has_spans step.region step.span).0 (region_of rows t.task.path step listed) in
        let records : logs above ≡ t.task.records = ap logs (sym t.path_is) ∙ has t.task (contains_at_task t.task t.found) in
        forked_by logs above step t.task.records (log_task t.task task_is.spans task_is.due_barriers) records task_is.keeps refl span (some t.task.records t.row_is.records.some (has_last t.task.records)) lane
      where
        contains_at_task : (task : TaskLog) → slice_get trace parent.0 ≡ Some task → Contains trace task
        contains_at_task task at = (parent.0, slice_get_within trace parent.0 task at, get_or_from_slice_get trace parent.0 task task at)

-- the fork of the next row's task, and its label
pub next_fork : {format : Format} (rows : List Row) (stack : Stack) (trace : Trace) (logs : Logs) (row : Row) (above : List Step) (step : Step) → AreRows rows → IsGoodTrace format rows trace → HasLogs logs trace
    → slice_get rows (length trace) ≡ Some row → KnowsForks stack trace row.path → row.path ≡ above ++ step ∷ [] → Fork logs above step stack.forks.items
next_fork rows stack trace logs row above step good is has found knows path_is =
    let row_is : IsRow row = row_at rows (length trace) row good found in
    let longer : length row.path ≡ length above + 1 = ap length path_is ∙ length_push above step in
    let h = knows logs has (length above) (omega (arith, longer)) in
    let prefix : take (length above) row.path ≡ take (length above) above =
    ap (λ (p : List Step). take (length above) p) path_is ∙ (take_at above (step ∷ []) (length above) refl ∙ sym (take_whole above)) in
    let there : HasForks logs stack.forks.items above (length above) = record {
      labels = h.labels;
      row = h.row;
      are = subst (λ (p : List Step). AreForks logs p (length (logs p)) h.labels.items) prefix h.are;
    } in
    fork_there logs stack.forks.items above step (forked rows trace logs (length trace) row above step good is has found (omega arith) path_is)
    (let few : length row.path ≤ 4 = row_is.depth in let same : length row.path ≡ length (above ++ step ∷ []) = ap length path_is in omega arith) there
  where
    take_whole : (xs : List Step) → take (length xs) xs ≡ xs
    take_whole [] = refl
    take_whole (x ∷ xs) = ap (λ (ys : List Step). x ∷ ys) (take_whole xs)

-- the label of its first record
pub next_label : {format : Format} (rows : List Row) (stack : Stack) (trace : Trace) (logs : Logs) (row : Row) (label : List Triple) → AreRows rows → IsGoodTrace format rows trace → HasLogs logs trace
    → slice_get rows (length trace) ≡ Some row → KnowsForks stack trace row.path
    → (row.path ≡ [] → label ≡ record { offset = 0; span = 1; barrier = 0 } ∷ [])
    → ((above : List Step) (step : Step) (labels : Vec (List Triple)) (fork : List Triple) → row.path ≡ above ++ step ∷ []
    → slice_get stack.forks.items (length above) ≡ Some labels → slice_get labels.items step.region ≡ Some fork
    → label ≡ fork ++ record { offset = step.lane; span = step.span; barrier = 0 } ∷ [])
    → IsLabel logs (record { path = row.path; index = 0 }) label × IsOwnAfter label 1
next_label rows stack trace logs row label good is has found knows of_root of_lane = go (has_last row.path)
  where
    go : (row.path ≡ []) ⊎ HasLast row.path → IsLabel logs (record { path = row.path; index = 0 }) label × IsOwnAfter label 1
    go (inl e) = root_first logs row.path label e (of_root e)
    go (inr l) =
        let f = next_fork rows stack trace logs row l.prefix l.last good is has found knows l.parts in
        let row_is : IsRow row = row_at rows (length trace) row good found in
        let is_step : IsStep l.last = All-contains IsStep (l.prefix ++ l.last ∷ []) l.last (subst (λ (p : List Step). All IsStep p) l.parts row_is.steps) (Contains-push l.prefix l.last) in
        let it = lane_first logs stack.forks.items l.prefix l.last label is_step f (of_lane l.prefix l.last f.has.labels f.has.label l.parts f.has.row f.has.found) in
        (subst (λ (p : List Step). IsLabel logs (record { path = p; index = 0 }) label) (sym l.parts) it.0, it.1)
