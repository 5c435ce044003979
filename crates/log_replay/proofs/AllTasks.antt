-- The tasks of a folder, one after another, and all of them.
use Rattle.std.proofs.Common.{◌≡◌, ◌⊎◌, inl, inr, refl, ap, sym, ◌∙◌, subst, ℕ, zero, suc, ◌+◌, ◌<◌, ◌≤◌, true, List, [], ◌∷◌, ◌++◌, length, take, Option, Some, None, slice_get, IsSome, arith, true≢false, append-nil}
use Rattle.std.specs.Prelude.{map, option_map, Contains, is_some}
use Rattle.std.proofs.lemmas.List.{length_push, length-take-le, take-take, take-append-le, take_all, same_from_push}
use Rattle.std.proofs.lemmas.Option.{same_Some, slice_get-map, slice_get_within}
use Rattle.log_format.specs.Limit.{record_limit}
use Rattle.sw_base.specs.declared.path.Step.{Step}
use Rattle.log_format.specs.declared.format.TheConstants.{FORMAT}
use Rattle.log_format.specs.declared.record.Record.{Record}
use Rattle.log_format.specs.declared.record.Kind.TheVariants as kind
use Rattle.race_model.specs.ForkJoin.{EndsOnce, IsForkJoin, IsTask}
use Rattle.race_model.specs.FirstBad.{HoldsLogs, row_of, rows_of}
use Rattle.race_model.specs.KeepsRules.{KeepsRules}
use Rattle.race_model.specs.LogFault.{IsWholeLog}
use Rattle.race_model.specs.Row.{Row}
use Rattle.sw_base.specs.Environment.{Files}
use Rattle.sw_base.proofs.Lists.{get_kept, get_pushed}
use Rattle.race_model.specs.Listing.{IsListing}
use Rattle.race_model.specs.Trace.{TaskLog, Trace, Logs, logs_of, region_count, is_region_kind}
use Rattle.race_laws.proofs.Counts.{count_finds, region_from_true}
use Rattle.race_laws.proofs.FolderForkJoin.{fork_join, has_begun, path_at, paths_same, row_all}
use Rattle.race_laws.proofs.LabelPlace.{has_last, HasLast}
use Rattle.race_laws.proofs.Listed.{root_listed}
use Rattle.race_laws.proofs.ListedOnce.{first_path, logs_at, next_path, next_shape}
use Rattle.race_model.proofs.TraceLogs.{all_at, find_task}
use Rattle.kernel_syntax.specs.Program.{Program}
use Rattle.kernel_model.specs.State.{Fork}
use Rattle.kernel_model.specs.Trace.{Start}
use Rattle.kernel_model.specs.Folder.{own_trace, root_start, lane_start, start_at, IsTraced, IsTracedTask, IsTracedFolder, paths_of}
use Rattle.kernel_rules.proofs.DistinctPaths.{listed_once}
use Rattle.kernel_rules.proofs.EndedTraces.{whole_trace}
use Rattle.kernel_model.proofs.Starts.{at_lane, at_root, descend, lane_started, starts_lane}
use Rattle.kernel_rules.proofs.LawfulFolder.{each_task}
use Rattle.kernel_rules.proofs.LawfulLogs.{span_at, spans_count}
use Rattle.kernel_rules.proofs.LawfulRecords.{spans_of, spans_forked}
use Rattle.log_replay.specs.Ancestors.{ComparesTask, GoesOn, KeepsForks, KeepsAllForks, trace_from}
use Rattle.log_replay.specs.Differing.{DiffersAt}
use Rattle.log_replay.specs.Following.{HasEnd}
use Rattle.log_replay.specs.Replaying.{DiffersFirst}

-- the tasks before this one are traced, and the regions of those above it are kept
pub record Compared (program : Program) (tasks : Trace) (kept : List (List Fork)) (index : ℕ) : Type 0 where
  pub traced : (k : ℕ) (task : TaskLog) → k < index → slice_get tasks k ≡ Some task → IsTracedTask program (logs_of tasks) task
  pub keeps : (task : TaskLog) → slice_get tasks index ≡ Some task → KeepsAllForks program (logs_of tasks) kept task.path

-- ---- lists

less_or_same : (k n : ℕ) → k ≤ n → (k < n) ⊎ (k ≡ n)
less_or_same k n le = grind arith

-- the fork that tells a span
record ForkAt (forks : List Fork) (k span : ℕ) : Type 0 where
  fork : Fork
  found : slice_get forks k ≡ Some fork
  span_is : fork.team.span ≡ span

fork_at : (forks : List Fork) (k span : ℕ) → slice_get (spans_forked forks) k ≡ Some span → ForkAt forks k span
fork_at [] k span found = cc
fork_at (f ∷ forks) zero span found = record { fork = f; found = refl; span_is = same_Some f.team.span span found }
fork_at (f ∷ forks) (suc k) span found =
    let rest = fork_at forks k span found in
    record { fork = rest.fork; found = rest.found; span_is = rest.span_is }

-- an End in the last place is among the records
end_among : (prefix : List Record) (last : Record) → last.kind ≡ kind.End → HasEnd (prefix ++ last ∷ [])
end_among [] last is = inl is
end_among (r ∷ prefix) last is = inr (end_among prefix last is)

has_end : {records : List Record} → EndsOnce records → HasEnd records
has_end ends = subst HasEnd (sym ends.parts) (end_among ends.prefix ends.last ends.ends)

module _ (program : Program) (tasks : Trace) (rules : KeepsRules FORMAT tasks) where
  abbrev logs : Logs
  logs = logs_of tasks

  tree : IsForkJoin logs
  tree = fork_join tasks rules

  listing : IsListing (paths_of tasks)
  listing = subst IsListing (paths_same tasks) rules.rows.lists

  path_found : (k : ℕ) (task : TaskLog) → slice_get tasks k ≡ Some task → slice_get (paths_of tasks) k ≡ Some task.path
  path_found k task found = slice_get-map (λ (t : TaskLog). t.path) tasks k ∙ ap (λ o. option_map (λ (t : TaskLog). t.path) o) found

  -- a task that is listed has records
  begun : (k : ℕ) (task : TaskLog) → slice_get tasks k ≡ Some task → IsTask logs task.path
  begun k task found = has_begun tasks rules.rows task.path (path_at tasks k task found)

  -- and so has the task above it
  above_begun : (above : List Step) (step : Step) → IsTask logs (above ++ step ∷ []) → IsTask logs above
  above_begun above step there =
      let was = tree.tasks.forked above step there in
      subst (λ (p : List Step). IsTask logs p) was.above (let w = slice_get_within (logs was.fork.path) was.fork.index was.lane.event was.lane.found in omega (arith, w))

  -- ---- regions and forks

  -- the spans of a traced task's Region records are those of the regions that it forks
  spans_same : (path : List Step) (start : Start) → IsTask logs path → IsTraced program start (logs path) → spans_of (logs path) ≡ spans_forked (own_trace program start (logs path)).forks
  spans_same path start is traced =
      let ends = tree.ends.ended path is in
      let whole = whole_trace program start (logs path) [] (traced.records_are ∙ sym (append-nil (logs path)))
      (record { prefix = ends.prefix; last = ends.last; parts = ends.parts; ends = ends.ends }) in
      whole.spans

  module _ (above : List Step) (step : Step) (start : Start) (is : IsTask logs above) (starts : start_at program logs above ≡ Some start) (traced : IsTraced program start (logs above)) where
    abbrev forks : List Fork
    forks = (own_trace program start (logs above)).forks

    -- a lane that the folder has is forked
    lane_forked : IsTask logs (above ++ step ∷ []) → (next : Start) × (start_at program logs (above ++ step ∷ []) ≡ Some next)
    lane_forked there =
        let was = tree.tasks.forked above step there in
        let lane = was.lane in
        let both = same_from_push above was.fork.path step (record { region = region_count (take was.fork.index (logs was.fork.path)); lane = step.lane; span = step.span }) lane.child in
        let told : slice_get (spans_of (logs was.fork.path)) (region_count (take was.fork.index (logs was.fork.path))) ≡ Some lane.event.value =
        span_at (logs was.fork.path) was.fork.index lane.event lane.found lane.region in
        let same : slice_get (spans_of (logs above)) step.region ≡ Some step.span =
        ap (λ (p : List Step). slice_get (spans_of (logs p)) step.region) both.0
        ∙ ap (λ (n : ℕ). slice_get (spans_of (logs was.fork.path)) n) (ap (λ (s : Step). s.region) both.1)
        ∙ told ∙ ap (λ (n : ℕ). Some n) lane.spans in
        let f = fork_at forks step.region step.span (ap (λ (l : List ℕ). slice_get l step.region) (sym (spans_same above start is traced)) ∙ same) in (
          record { team = f.fork.team; lane = step.lane; slots = f.fork.slots },
          at_lane program logs above start step starts ∙ ap (λ (o : Option Fork). lane_start o step) f.found
              ∙ starts_lane f.fork step (sym f.span_is) lane.in_span,
        )

    -- a lane that is forked is in the folder
    lane_there : (next : Start) → lane_start (slice_get forks step.region) step ≡ Some next → IsTask logs (above ++ step ∷ [])
    lane_there next is_next =
        let lane = lane_started (slice_get forks step.region) step next is_next in
        let told : slice_get (spans_of (logs above)) step.region ≡ Some step.span =
        ap (λ (l : List ℕ). slice_get l step.region) (spans_same above start is traced)
        ∙ slice_get-map (λ (f : Fork). f.team.span) forks step.region
        ∙ ap (λ (o : Option Fork). option_map (λ (f : Fork). f.team.span) o) lane.forked
        ∙ ap (λ (n : ℕ). Some n) (sym lane.span) in
        let within = slice_get_within (spans_of (logs above)) step.region step.span told in
        let c = count_finds (λ (r : Record). is_region_kind r.kind) (logs above) step.region (omega (arith, within, spans_count (logs above))) in
        let region = region_from_true c.item.kind c.counts in
        let value : c.item.value ≡ step.span =
        same_Some c.item.value step.span
        (sym (span_at (logs above) c.index c.item c.found region)
        ∙ ap (λ (n : ℕ). slice_get (spans_of (logs above)) n) c.before ∙ told) in
        tree.ends.lanes (record { path = above; index = c.index }) step.lane step.span (above ++ step ∷ [])
        (record {
          event = c.item;
          found = c.found;
          region = region;
          spans = value;
          in_span = lane.lane;
          child = ap (λ (n : ℕ). above ++ record { region = n; lane = step.lane; span = step.span } ∷ []) (sym c.before);
        })

  -- ---- one task after another

  pub compared_none : Compared program tasks [] 0
  compared_none = record {
    traced = λ k task less found. absurd (omega arith);
    keeps = λ task found depth within.
        let root = first_path (paths_of tasks) listing task.path (path_found 0 task found) in
        let none = ap length root in absurd (omega (arith, none, within));
  }

  module _ (kept : List (List Fork)) (index : ℕ) (compared : Compared program tasks kept index) (task : TaskLog) (found : slice_get tasks index ≡ Some task) where
    own : logs task.path ≡ task.records
    own = logs_at tasks listing index task found

    -- it starts where the task above it forks it
    pub has_start : (start : Start) × (start_at program logs task.path ≡ Some start)
    has_start = at (has_last task.path)
      where
        at : (task.path ≡ []) ⊎ HasLast task.path → (start : Start) × (start_at program logs task.path ≡ Some start)
        at (inl root) = (root_start program, ap (λ (p : List Step). start_at program logs p) root ∙ at_root program logs)
        at (inr l) =
            let more : length task.path ≡ length l.prefix + 1 = ap length l.parts ∙ length_push l.prefix l.last in
            let same : take (length l.prefix) task.path ≡ l.prefix =
            ap (λ (p : List Step). take (length l.prefix) p) l.parts ∙ take-append-le (length l.prefix) l.prefix (l.last ∷ []) (omega arith) ∙ take_all (length l.prefix) l.prefix (omega arith) in
            let k = subst (λ (p : List Step). KeepsForks program logs kept p (length l.prefix)) same (compared.keeps task found (length l.prefix) (omega (arith, more))) in
            let here = subst (λ (p : List Step). IsTask logs p) l.parts (begun index task found) in
            let up = above_begun l.prefix l.last here in
            let next = lane_forked l.prefix l.last k.start up k.starts k.traced here in
            (next.0, ap (λ (p : List Step). start_at program logs p) l.parts ∙ next.1)

    -- its log, read by its row
    pub log_of_row : (files : Files) (dir : List ℕ) (kept' : List (List Fork)) (answer : Option ℕ) → HoldsLogs FORMAT files dir tasks → (row : Row) → row ≡ row_of task
        → ((logs : Logs) → KeepsAllForks program logs kept row.path → IsWholeLog FORMAT files dir row.path (logs row.path) → row.records ≡ length (logs row.path) → HasEnd (logs row.path)
        → length (logs row.path) ≤ record_limit → ComparesTask program logs row.path kept kept' answer)
        → ComparesTask program logs task.path kept kept' answer
    log_of_row files dir kept' answer holds row is compares =
        let there = subst (λ (r : Row). (logs : Logs) → KeepsAllForks program logs kept r.path → IsWholeLog FORMAT files dir r.path (logs r.path) → r.records ≡ length (logs r.path) → HasEnd (logs r.path)
        → length (logs r.path) ≤ record_limit → ComparesTask program logs r.path kept kept' answer) is compares in
        let whole = all_at (λ (t : TaskLog). IsWholeLog FORMAT files dir t.path t.records) tasks index task holds found in
        let row_is = row_all tasks index task rules.rows.each found in
        let limit = row_is.records.limit in
        there logs (compared.keeps task found)
        (subst (λ (rs : List Record). IsWholeLog FORMAT files dir task.path rs) (sym own) whole)
        (sym (ap length own)) (has_end (tree.ends.ended task.path (begun index task found))) (omega (arith, ap length own, limit))

    -- the next task, after one that is traced
    pub compared_next : (new : List (List Fork)) → GoesOn program logs task.path kept new → Compared program tasks new (index + 1)
    compared_next new goes =
        let more : suc index ≡ index + 1 = omega arith in
        subst (λ (n : ℕ). Compared program tasks new n) more (record { traced = traced; keeps = keeps })
      where
        traced : (k : ℕ) (other : TaskLog) → k < suc index → slice_get tasks k ≡ Some other → IsTracedTask program logs other
        traced k other less there = elim (less_or_same k index (omega arith)) [
          | inl earlier ↦ compared.traced k other earlier there
          | inr same ↦
              let one : task ≡ other = same_Some task other (sym found ∙ ap (λ (n : ℕ). slice_get tasks n) (sym same) ∙ there) in
              subst (λ (t : TaskLog). IsTracedTask program logs t) one
              (record { start = goes.start; starts = goes.starts; traced = subst (λ (rs : List Record). IsTraced program goes.start rs) own goes.traced })
        ]

        long : (p : List Step) → KeepsAllForks program logs kept p → length p ≤ length kept
        long [] all = omega arith
        long (s ∷ p) all =
            let k = all (length p) (omega arith) in
            let w = slice_get_within kept (length p) (own_trace program k.start (logs (take (length p) (s ∷ p)))).forks k.forks in omega (arith, w)

        keeps : (other : TaskLog) → slice_get tasks (suc index) ≡ Some other → KeepsAllForks program logs new other.path
        keeps other there depth within =
            let shape = next_shape task.path other.path (next_path (paths_of tasks) listing index task.path other.path (path_found index task found) (path_found (suc index) other there)) in
            let cut = length-take-le shape.depth task.path shape.within in
            let longer : length other.path ≡ shape.depth + 1 = ap length shape.is ∙ (length_push (take shape.depth task.path) shape.step ∙ ap (λ (m : ℕ). m + 1) cut) in
            let low : depth ≤ shape.depth = omega (arith, longer, within) in
            let prefix : take depth task.path ≡ take depth other.path =
            sym (take-take depth shape.depth task.path low)
            ∙ (sym (take-append-le depth (take shape.depth task.path) (shape.step ∷ []) (omega (arith, cut, low))) ∙ ap (λ (p : List Step). take depth p) (sym shape.is)) in
            subst (λ (p : List Step). KeepsForks program logs new p depth) prefix
            (elim (less_or_same depth (length task.path) (let w = shape.within in omega (arith, low, w))) [
              | inl less ↦
                  let k = compared.keeps task found depth less in
                  record {
                    start = k.start;
                    starts = k.starts;
                    traced = k.traced;
                    forks =
                        ap (λ (l : List (List Fork)). slice_get l depth) goes.kept
                        ∙ get_kept kept (own_trace program goes.start (logs task.path)).forks (own_trace program k.start (logs (take depth task.path))).forks (length task.path) depth less k.forks;
                  }
              | inr same ↦
                  let whole : take depth task.path ≡ task.path = ap (λ (n : ℕ). take n task.path) same ∙ take_all (length task.path) task.path (omega arith) in
                  subst (λ (p : List Step). KeepsForks program logs new p depth) (sym whole)
                  (record {
                    start = goes.start;
                    starts = goes.starts;
                    traced = goes.traced;
                    forks =
                        ap (λ (l : List (List Fork)). slice_get l depth) goes.kept
                        ∙ ap (λ (n : ℕ). slice_get (take (length task.path) kept ++ (own_trace program goes.start (logs task.path)).forks ∷ []) n) same
                        ∙ get_pushed kept (own_trace program goes.start (logs task.path)).forks (length task.path) (long task.path (compared.keeps task found));
                  })
            ])

    -- the first task that isn't traced
    pub compared_other : (number : ℕ) → DiffersAt (trace_from program (start_at program logs task.path) (logs task.path)) (logs task.path) number → DiffersFirst program tasks task.path number
    compared_other number differs =
        let has = has_start in
        record {
          index = index;
          task = task;
          listed = found;
          earlier = compared.traced;
          path_is = refl;
          start = has.0;
          starts = has.1;
          differs =
              subst (λ (rs : List Record). DiffersAt (own_trace program has.0 rs).records rs number) own
              (subst (λ (o : Option Start). DiffersAt (trace_from program o (logs task.path)) (logs task.path) number) has.1 differs);
        }

  -- ---- all of them

  module _ (kept : List (List Fork)) (index : ℕ) (compared : Compared program tasks kept index) (all : length tasks ≤ index) where
    -- a task that starts is there, with its trace
    own_traced : (path : List Step) (start : Start) → IsTask logs path → start_at program logs path ≡ Some start → IsTraced program start (logs path)
    own_traced path start is starts =
        let f = find_task tasks path is in
        let w = slice_get_within tasks f.index f.task f.found in
        let it = compared.traced f.index f.task (omega (arith, w)) f.found in
        let same = same_Some it.start start (sym it.starts ∙ ap (λ (p : List Step). start_at program logs p) f.path_is ∙ starts) in
        subst (λ (rs : List Record). IsTraced program start rs) f.records_are (subst (λ (s : Start). IsTraced program s f.task.records) same it.traced)

    there : (path : List Step) (start : Start) → start_at program logs path ≡ Some start → IsTask logs path
    there =
        descend program logs (λ path start. IsTask logs path) (has_begun tasks rules.rows [] (root_listed (map (λ (row : Row). row.path) (rows_of tasks)) rules.rows.lists))
        (λ above up step next is begins is_next. lane_there above step up is begins (own_traced above up is begins) next is_next)

    listed : (path : List Step) → IsTask logs path → Contains (paths_of tasks) path
    listed path is =
        let f = find_task tasks path is in
        subst (λ (ps : List (List Step)). Contains ps path) (paths_same tasks)
        (subst (λ (p : List Step). Contains (map (λ (row : Row). row.path) (rows_of tasks)) p) f.path_is (path_at tasks f.index f.task f.found))

    by_start : (path : List Step) (o : Option Start) → start_at program logs path ≡ o → IsSome (start_at program logs path) → Contains (paths_of tasks) path
    by_start path None same is = absurd (true≢false (sym is ∙ ap is_some same))
    by_start path (Some start) same is = listed path (there path start same)

    pub compared_all : IsTracedFolder program tasks
    compared_all = record {
      each = each_task (IsTracedTask program logs) tasks (λ k task found. let w = slice_get_within tasks k task found in compared.traced k task (omega (arith, w)) found);
      all = λ path is. by_start path (start_at program logs path) refl is;
      once = listed_once (paths_of tasks) listing;
    }
