-- The tasks of a whole run of a lawful kernel keep every rule of a folder.
use Rattle.std.proofs.Common.{◌≡◌, refl, ap, sym, ◌∙◌, subst, ℕ, suc, ◌+◌, ◌<◌, ◌≤◌, arith, false, List, [], ◌∷◌, ◌++◌, length, Option, Some, None, slice_get, IsSome, All, pos, length-append}
use Rattle.std.specs.Prelude.{map, Contains, option_map}
use Rattle.std.proofs.lemmas.List.Elements.{All-nil, All-cons, All-push, All-replicate}
use Rattle.std.proofs.lemmas.Option.{same_Some, none-some, slice_get-map, slice_get_within}
use Rattle.log_format.specs.Limit.{record_limit}
use Rattle.log_format.specs.declared.format.TheConstants.{FORMAT}
use Rattle.sw_base.specs.declared.path.Step.{Step}
use Rattle.log_format.specs.declared.record.Record.{Record}
use Rattle.race_model.specs.FirstBad.{row_of, rows_of}
use Rattle.race_model.specs.IndexFault.{IsStep, IsRow, max_rows}
use Rattle.race_model.specs.KeepsRules.{KnowsTeam, TaskKeepsRules, KeepsRules}
use Rattle.race_model.specs.Listing.{lane_of, IsListing}
use Rattle.race_model.specs.Row.{Row}
use Rattle.race_model.specs.Trace.{TaskLog, Trace, Logs, logs_of, barrier_count, is_region_kind}
use Rattle.std.proofs.lemmas.List.Sums.{count_by-le-length}
use Rattle.race_laws.proofs.FolderRules.{lists_spans}
use Rattle.race_laws.proofs.Listed.{AreSpans}
use Rattle.race_laws.proofs.ListedOnce.{logs_at}
use Rattle.race_model.proofs.TraceLogs.{all_at, find_listed}
use Rattle.kernel_syntax.specs.Program.{Program}
use Rattle.kernel_syntax.specs.Tree.{TeamTree}
use Rattle.kernel_model.specs.State.{Fork, reads_of, chunks_of}
use Rattle.kernel_model.specs.Trace.{Start}
use Rattle.kernel_model.specs.Folder.{own_trace, root_start, lane_start, start_at, IsTraced, IsTracedTask, IsTracedFolder, paths_of}
use Rattle.kernel_model.specs.Lawful.{IsLawful, code_holds_work}
use Rattle.kernel_model.specs.Parts.{parts_of, bar_count}
use Rattle.kernel_model.proofs.Growing.{task-grows}
use Rattle.kernel_model.proofs.Starts.{at_lane, at_root, lane_started, descend, starts_lane, start_above}
use Rattle.kernel_rules.proofs.LawfulValues.{IsValue, IsValueFork, IsValueStart, zero_value, lane_values, traced_values}
use Rattle.kernel_rules.proofs.LawfulRecords.{IsLawfulTeam, IsLawfulFork, spans_forked}
use Rattle.kernel_rules.proofs.LawfulLogs.{IsLawfulLog, lawful_log, log_keeps}
use Rattle.kernel_rules.proofs.SameBarriers.{traced_barriers, idle_barriers}

-- ---- tasks of a trace

-- what holds of each task holds of all, and of their rows
pub each_task : (P : TaskLog → Type 0) (tasks : Trace) → ((k : ℕ) (task : TaskLog) → slice_get tasks k ≡ Some task → P task) → All P tasks
each_task P [] all = All-nil P
each_task P (t ∷ tasks) all = All-cons P t tasks (all 0 t refl) (each_task P tasks (λ k task found. all (suc k) task found))

each_row : (tasks : Trace) → ((k : ℕ) (task : TaskLog) → slice_get tasks k ≡ Some task → IsRow (row_of task)) → All IsRow (rows_of tasks)
each_row [] all = All-nil IsRow
each_row (t ∷ tasks) all = All-cons IsRow (row_of t) (rows_of tasks) (all 0 t refl) (each_row tasks (λ k task found. all (suc k) task found))

pub row_paths : (tasks : Trace) → map (λ (row : Row). row.path) (rows_of tasks) ≡ paths_of tasks
row_paths [] = refl
row_paths (t ∷ tasks) = ap (λ (ps : List (List Step)). t.path ∷ ps) (row_paths tasks)

row_count : (tasks : Trace) → length (rows_of tasks) ≡ length tasks
row_count [] = refl
row_count (t ∷ tasks) = ap suc (row_count tasks)

-- a trace fits a log
trace_limit : (program : Program) (start : Start) (records : List Record) → IsTraced program start records → length records ≤ record_limit
trace_limit program start records traced =
    let grows = task-grows program start (reads_of records) (chunks_of records) in
    let count : length records ≡ length grows.added = ap length (sym traced.records_are ∙ grows.records_are) in
    let room = grows.room_is in
    omega (arith, count, room)

-- a task forks at most as many regions as it has records
fork_limit : (program : Program) (start : Start) (records : List Record) → length (own_trace program start records).forks ≤ record_limit
fork_limit program start records =
    let grows = task-grows program start (reads_of records) (chunks_of records) in
    let forks : length (own_trace program start records).forks ≡ length grows.regions = ap length grows.forks_are in
    let count = grows.fork_count in
    let room = grows.room_is in
    omega (arith, count_by-le-length (λ (r : Record). is_region_kind r.kind) grows.added)

-- a task that starts is there, with its trace
pub traced_at : (program : Program) (tasks : Trace) → IsTracedFolder program tasks → (path : List Step) (start : Start) → start_at program (logs_of tasks) path ≡ Some start
    → IsTraced program start (logs_of tasks path)
traced_at program tasks folder path start starts =
    let f = find_listed tasks path (folder.all path (subst IsSome (sym starts) refl)) in
    let it = all_at (IsTracedTask program (logs_of tasks)) tasks f.index f.task folder.each f.found in
    let same : it.start ≡ start = same_Some it.start start (sym it.starts ∙ (ap (λ (p : List Step). start_at program (logs_of tasks) p) f.path_is ∙ starts)) in
    subst (λ (rs : List Record). IsTraced program start rs) f.records_are (subst (λ (s : Start). IsTraced program s f.task.records) same it.traced)

-- ---- a folder of a lawful kernel

-- the root is a lawful team of one lane, whose locals are values
pub root_team : (program : Program) → IsLawful program → IsLawfulTeam (length program.mutexes) 0 program.main
root_team program lawful = record { lanes = 1; few = omega arith; shallow = omega arith; even = lawful.even; nested = lawful.nested; bounded = lawful.bounded.body }

pub root_values : (program : Program) → IsLawful program → IsValueStart (root_start program)
root_values program lawful = record {
  slots = All-replicate IsValue program.slots (pos 0) zero_value;
  numbers = lawful.numbers;
  bounded = lawful.bounded.body;
  ends = lawful.bounded.end_line;
  within = let alone = lawful.alone in omega arith;
  few = let alone = lawful.alone in omega arith;
}

module _ (program : Program) (lawful : IsLawful program) (tasks : Trace) (folder : IsTracedFolder program tasks) (listing : IsListing (paths_of tasks)) where
  abbrev logs : Logs
  logs = logs_of tasks

  abbrev mutexes : ℕ
  mutexes = length program.mutexes

  -- a task that lies as deep as its path is long
  record IsLawfulAt (path : List Step) (start : Start) : Type 0 where
    inside : IsLawfulTeam mutexes (length path) start.team
    begins : IsValueStart start
    steps : All IsStep path

  root_lawful : IsLawfulAt [] (root_start program)
  root_lawful = record {
    inside = root_team program lawful;
    begins = root_values program lawful;
    steps = All-nil IsStep;
  }

  -- a lane of a lawful task's region
  lane_lawful : (path : List Step) (start : Start) (step : Step) (next : Start) → IsLawfulAt path start → IsTraced program start (logs path) →
      lane_start (slice_get (own_trace program start (logs path)).forks step.region) step ≡ Some next → IsLawfulAt (path ++ step ∷ []) next
  lane_lawful path start step next at traced is =
      let forks = (own_trace program start (logs path)).forks in
      let lane = lane_started (slice_get forks step.region) step next is in
      let log = lawful_log program start (logs path) mutexes (length path) at.inside traced in
      let values = traced_values program lawful.bounded start at.begins (logs path) traced in
      let fork : IsLawfulFork mutexes (length path + 1) lane.fork = all_at (IsLawfulFork mutexes (length path + 1)) forks step.region lane.fork log.teams lane.forked in
      let deep : length (path ++ step ∷ []) ≡ length path + 1 = length-append path (step ∷ []) in
      let region = slice_get_within forks step.region lane.fork lane.forked in
      let limit = fork_limit program start (logs path) in
      let some = fork.span.some in
      let most = fork.span.limit in
      let span = lane.span in
      record {
        inside =
            subst (λ (n : ℕ). IsLawfulTeam mutexes n next.team) (sym deep)
            (subst (λ (t : TeamTree). IsLawfulTeam mutexes (length path + 1) t) (sym (ap (λ (s : Start). s.team) lane.begins)) fork.inside);
        begins =
            subst IsValueStart (sym lane.begins)
            (lane_values lane.fork step.lane (all_at IsValueFork forks step.region lane.fork values.begin lane.forked) (omega (arith, span, lane.lane)));
        steps = All-push IsStep path step at.steps (record { region = omega arith; span = record { some = omega arith; limit = omega arith }; lane = lane.lane });
      }

  -- so every task that starts is lawful
  lawful_at : (path : List Step) (start : Start) → start_at program logs path ≡ Some start → IsLawfulAt path start
  lawful_at path start starts =
      descend program logs IsLawfulAt root_lawful
      (λ above up step next at begins is. lane_lawful above up step next at (traced_at program tasks folder above up begins) is) path start starts

  -- ---- one task

  module _ (k : ℕ) (task : TaskLog) (found : slice_get tasks k ≡ Some task) where
    it : IsTracedTask program logs task
    it = all_at (IsTracedTask program logs) tasks k task folder.each found

    own : logs task.path ≡ task.records
    own = logs_at tasks listing k task found

    at : IsLawfulAt task.path it.start
    at = lawful_at task.path it.start it.starts

    abbrev forks : List Fork
    forks = (own_trace program it.start (logs task.path)).forks

    log : IsLawfulLog mutexes (length task.path + 1) task.records forks
    log =
        subst (λ (rs : List Record). IsLawfulLog mutexes (length task.path + 1) rs forks) own
        (lawful_log program it.start (logs task.path) mutexes (length task.path) at.inside (traced_at program tasks folder task.path it.start it.starts))

    abbrev due : ℕ
    due = bar_count (parts_of it.start.team.body)

    barriers_are : barrier_count task.records ≡ due
    barriers_are = traced_barriers program it.start task.records at.inside.even it.traced

    root_barriers : task.path ≡ [] → barrier_count task.records ≡ 0
    root_barriers is =
        let main : root_start program ≡ it.start =
        same_Some (root_start program) it.start (sym (at_root program logs) ∙ ap (λ (p : List Step). start_at program logs p) (sym is) ∙ it.starts) in
        idle_barriers program it.start task.records
        (subst (λ (s : Start). code_holds_work s.team.body ≡ false) main lawful.idle) it.traced

    -- the spans of its regions
    are_spans : AreSpans (paths_of tasks) task.path (spans_forked forks)
    are_spans = record { listed = listed; lists = lists }
      where
        listed : (region lane span : ℕ) → Contains (paths_of tasks) (lane_of task.path region lane span) → slice_get (spans_forked forks) region ≡ Some span
        listed region lane span there =
            let step : Step = record { region = region; lane = lane; span = span } in
            let beside = find_listed tasks (task.path ++ step ∷ []) there in
            let its = all_at (IsTracedTask program logs) tasks beside.index beside.task folder.each beside.found in
            let starts : start_at program logs (task.path ++ step ∷ []) ≡ Some its.start =
            ap (λ (p : List Step). start_at program logs p) (sym beside.path_is) ∙ its.starts in
            let told = lane_started (slice_get forks region) step its.start (sym (at_lane program logs task.path it.start step it.starts) ∙ starts) in
            slice_get-map (λ (f : Fork). f.team.span) forks region
            ∙ ap (λ o. option_map (λ (f : Fork). f.team.span) o) told.forked
            ∙ ap (λ (n : ℕ). Some n) (sym told.span)

        by_fork : (region span : ℕ) (o : Option Fork) → slice_get forks region ≡ o → option_map (λ (f : Fork). f.team.span) o ≡ Some span →
            Contains (paths_of tasks) (lane_of task.path region 0 span)
        by_fork region span None is same = absurd (none-some span same)
        by_fork region span (Some f) is same =
            let step : Step = record { region = region; lane = 0; span = span } in
            let lawful_fork = all_at (IsLawfulFork mutexes (length task.path + 1)) forks region f log.teams is in
            let span_is : span ≡ f.team.span = sym (same_Some f.team.span span same) in
            let some = lawful_fork.span.some in
            let starts = at_lane program logs task.path it.start step it.starts ∙ ap (λ o. lane_start o step) is ∙ starts_lane f step span_is (omega arith) in
            folder.all (task.path ++ step ∷ []) (subst IsSome (sym starts) refl)

        lists : (region span : ℕ) → slice_get (spans_forked forks) region ≡ Some span → Contains (paths_of tasks) (lane_of task.path region 0 span)
        lists region span told =
            by_fork region span (slice_get forks region) refl (sym (slice_get-map (λ (f : Fork). f.team.span) forks region) ∙ told)

    -- lane 0 of its team passes as many barriers
    knows_team : KnowsTeam tasks task.path (Some due)
    knows_team above step is above_first =
        let starts : start_at program logs (above ++ step ∷ []) ≡ Some it.start = ap (λ (p : List Step). start_at program logs p) (sym is) ∙ it.starts in
        let up = start_above program logs above step it.start starts in
        let others = (own_trace program up.0 (logs above)).forks in
        let told = lane_started (slice_get others step.region) step it.start (sym (at_lane program logs above up.0 step up.1) ∙ starts) in
        let first : Step = record { region = step.region; lane = 0; span = step.span } in
        let lane = told.lane in
        let begins =
        at_lane program logs above up.0 first up.1
        ∙ ap (λ o. lane_start o first) told.forked
        ∙ starts_lane told.fork first told.span (omega arith) in
        let zero_start : Start = record { team = told.fork.team; lane = 0; slots = told.fork.slots } in
        let path = lane_of above step.region 0 step.span in
        let count = traced_barriers program zero_start (logs path) (lawful_at path zero_start begins).inside.even (traced_at program tasks folder path zero_start begins) in
        ap (λ (n : ℕ). Some n) (ap (λ (s : Start). bar_count (parts_of s.team.body)) told.begins ∙ sym count)

    task_keeps : TaskKeepsRules FORMAT tasks task
    task_keeps = record {
      tabled = (traced_values program lawful.bounded it.start at.begins task.records it.traced).tabled;
      spans = spans_forked forks;
      has_spans =
          lists_spans (rows_of tasks) task.path (spans_forked forks)
          (subst (λ (ps : List (List Step)). AreSpans ps task.path (spans_forked forks)) (sym (row_paths tasks)) are_spans);
      due_barriers = Some due;
      knows_team = knows_team;
      keeps =
          log_keeps mutexes (length task.path + 1) task.records forks log task.path (Some due)
          (λ barriers same. barriers_are ∙ same_Some due barriers same) root_barriers;
    }

    is_row : IsRow (row_of task)
    is_row =
        let size : length task.records ≡ length log.prefix + 1 = ap length log.parts ∙ length-append log.prefix _ in
        record {
          depth = at.inside.shallow;
          steps = at.steps;
          records = record { some = omega arith; limit = trace_limit program it.start task.records it.traced };
        }

  -- All tasks keep the rules.
  pub folder_keeps : length tasks ≤ max_rows → KeepsRules FORMAT tasks
  folder_keeps few = record {
    rows = record {
      lists = subst IsListing (sym (row_paths tasks)) listing;
      each = each_row tasks is_row;
      limit = omega (arith, row_count tasks);
    };
    tasks = each_task (TaskKeepsRules FORMAT tasks) tasks task_keeps;
  }
