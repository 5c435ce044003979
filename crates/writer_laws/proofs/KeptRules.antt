-- A trace keeps the rules of a folder exactly where it is that of a fork-join run, with the rows of an index, and each log keeps its own rules.
use Rattle.std.proofs.Common.{◌≡◌, ◌≢◌, ◌⊎◌, ◌↔◌, inl, inr, ℕ, zero, suc, ◌+◌, ◌<◌, ◌≤◌, cond, List, [], ◌∷◌, ◌++◌, length, take, Option, Some, None, refl, sym, ap, subst, ◌∙◌, arith, get_or}
use Rattle.std.specs.Prelude.{slice_get, Contains, map, All}
use Rattle.std.proofs.lemmas.List.{length-take-le, length_push, same_from_push, take_at}
use Rattle.std.proofs.lemmas.List.Sums.{sum_by-take-le}
use Rattle.std.proofs.lemmas.Option.{slice_get_within, slice_get-get_or, same_Some}
use Rattle.sw_base.specs.declared.path.Step.{Step}
use Rattle.sw_base.proofs.Lists.{get_left, get_right}
use Rattle.log_format.specs.declared.format.Format.{Format}
use Rattle.log_format.specs.declared.record.Record.{Record}
use Rattle.log_format.specs.declared.record.Why.TheVariants as why
use Rattle.log_format.specs.declared.record.Kind.{Kind}
use Rattle.log_format.specs.declared.record.Kind.TheVariants.{Barrier, Region, End}
use Rattle.log_format.specs.Table.{IsTabled, SpanIsTabled}
use Rattle.race_model.specs.declared.why.RecordWhy.{RecordWhy}
use Rattle.race_model.specs.declared.why.RecordWhy.TheVariants as log
use Rattle.race_model.specs.Row.{Row}
use Rattle.race_model.specs.Listing.{IsListing, lane_of}
use Rattle.race_model.specs.Trace.{TaskLog, Trace, Node, logs_of, record_at, regions_before, region_count, barrier_count, is_barrier_kind}
use Rattle.race_model.specs.Order.{IsLane}
use Rattle.race_model.specs.Race.{held_after}
use Rattle.race_model.specs.IndexFault.{AreRows}
use Rattle.race_model.specs.LogFault.{Breaks, ListsRegion, ListsSpans}
use Rattle.race_model.specs.FirstBad.{rows_of}
use Rattle.race_model.specs.KeepsRules.{KnowsTeam, TaskKeepsRules, KeepsRules}
use Rattle.race_model.specs.ForkJoin.{EndsOnce, IsTask, IsForkJoin}
use Rattle.race_model.proofs.TraceLogs.{all_at, find_task}
use Rattle.race_laws.proofs.FolderForkJoin.{path_at, paths_same, all_by, has_begun, fork_join}
use Rattle.race_laws.proofs.FolderRules.{path_listed, lists_spans, region_of}
use Rattle.race_laws.proofs.Counts.{count_next}
use Rattle.race_laws.proofs.LabelPlace.{HasLast, has_last, not_both_empty}
use Rattle.race_laws.proofs.Listed.{spans_listed}
use Rattle.race_laws.proofs.ListedOnce.{logs_at}
use Rattle.writer_laws.proofs.CutTasks.{region_within, regions_of_first, barriers_of_first}
use Rattle.writer_laws.specs.Rules.{IsNestedRecord, AreNested, AreTabled}

-- the records of the table, and their mutexes
module _ {format : Format} (trace : Trace) (good : KeepsRules format trace) where
  -- a record of a path, as its task's
  record IsOfTask (x : Node) (r : Record) : Type 0 where
    task : TaskLog
    keeps : TaskKeepsRules format trace task
    found : slice_get task.records x.index ≡ Some r
    records_are : task.records ≡ logs_of trace x.path

  of_task : (x : Node) (r : Record) → record_at (logs_of trace) x ≡ Some r → IsOfTask x r
  of_task x r found =
      let within = slice_get_within (logs_of trace x.path) x.index r found in
      let f = find_task trace x.path (omega arith) in
      record {
        task = f.task;
        keeps = all_at (TaskKeepsRules format trace) trace f.index f.task good.tasks f.found;
        found = subst (λ (records : List Record). slice_get records x.index ≡ Some r) (sym f.records_are) found;
        records_are = f.records_are;
      }

  pub are_tabled : AreTabled format (logs_of trace)
  are_tabled x r found = let t = of_task x r found in all_at (IsTabled format) t.task.records x.index r t.keeps.tabled t.found

  pub are_nested : AreNested (logs_of trace)
  are_nested x r found = subst (λ (records : List Record). IsNestedRecord (held_after [] (take x.index records)) r) t.records_are nested
    where
      t : IsOfTask x r
      t = of_task x r found

      nested : IsNestedRecord (held_after [] (take x.index t.task.records)) r
      nested = record {
        once = λ is holds. t.keeps.keeps x.index r t.found log.LockTwice (is, holds);
        limit = λ is deep. t.keeps.keeps x.index r t.found log.LocksDeep (is, deep);
        last = λ is other. t.keeps.keeps x.index r t.found log.UnlockOther (is, other);
        none = at;
      }
        where
          at : (r.kind ≡ Barrier) ⊎ (r.kind ≡ Region) ⊎ (r.kind ≡ End) → (held_after [] (take x.index t.task.records) ≢ []) → ⊥
          at (inl is) some = t.keeps.keeps x.index r t.found log.BarrierLocked (is, some)
          at (inr (inl is)) some = t.keeps.keeps x.index r t.found log.RegionLocked (is, some)
          at (inr (inr is)) some = t.keeps.keeps x.index r t.found log.LockOpen (is, some)

-- the other way round
module _ {format : Format} (trace : Trace) (tree : IsForkJoin (logs_of trace)) (rows : AreRows (rows_of trace)) (tabled : AreTabled format (logs_of trace)) (nested : AreNested (logs_of trace)) where
  abbrev paths : List (List Step)
  paths = map (λ (row : Row). row.path) (rows_of trace)

  -- a lane is listed
  lane_listed : (fork : Node) (n s : ℕ) (path : List Step) → IsLane (logs_of trace) fork n s path → Contains paths path
  lane_listed fork n s path lane =
      let f = find_task trace path (tree.ends.lanes fork n s path lane) in
      subst (λ (p : List Step). Contains paths p) f.path_is (path_at trace f.index f.task f.found)

  -- what the rules know of the barriers of a task's team
  record HasDue (path : List Step) : Type 0 where
    due : Option ℕ
    knows : KnowsTeam trace path due
    exact : (barriers : ℕ) → due ≡ Some barriers → barriers ≡ barrier_count (logs_of trace path)

  due_in_lane : (path prefix : List Step) (step : Step) → path ≡ prefix ++ step ∷ [] → IsTask (logs_of trace) path → (n : ℕ) → step.lane ≡ n → HasDue path
  due_in_lane path prefix step parts task zero is = record {
    due = None;
    knows = λ above other is_other positive.
        let same = same_from_push prefix above step other (sym parts ∙ is_other) in
        let lane : step.lane ≡ other.lane = ap (λ (t : Step). t.lane) same.1 in
        absurd (omega arith);
    exact = λ barriers none. cc;
  }
  due_in_lane path prefix step parts task (suc n) is =
      let forked = tree.tasks.forked prefix step (subst (λ (p : List Step). IsTask (logs_of trace) p) parts task) in
      let less = forked.lane.in_span in
      let number = same_from_push forked.fork.path prefix (record { region = regions_before (logs_of trace) forked.fork; lane = step.lane; span = step.span }) step (sym forked.lane.child) in
      let first : IsLane (logs_of trace) forked.fork 0 step.span (lane_of prefix step.region 0 step.span) = record {
        event = forked.lane.event;
        found = forked.lane.found;
        region = forked.lane.region;
        spans = forked.lane.spans;
        in_span = omega arith;
        child = λ i. lane_of ((sym forked.above) i) (((sym number.1) i).region) 0 step.span;
      } in
      record {
        due = Some (barrier_count (logs_of trace (lane_of prefix step.region 0 step.span)));
        knows = λ above other is_other positive.
            let same = same_from_push prefix above step other (sym parts ∙ is_other) in
            λ i. Some (barrier_count (logs_of trace (lane_of (same.0 i) ((same.1 i).region) 0 ((same.1 i).span))));
        exact = λ barriers known.
            sym (same_Some (barrier_count (logs_of trace (lane_of prefix step.region 0 step.span))) barriers known)
            ∙ (tree.ends.same_barriers forked.fork 0 step.lane step.span (lane_of prefix step.region 0 step.span) (prefix ++ step ∷ []) first forked.lane
            ∙ ap (λ (p : List Step). barrier_count (logs_of trace p)) (sym parts));
      }

  has_due : (path : List Step) → IsTask (logs_of trace) path → HasDue path
  has_due path task = at (has_last path)
    where
      at : (path ≡ []) ⊎ HasLast path → HasDue path
      at (inl e) = record {
        due = None;
        knows = λ above other is_other positive. absurd (not_both_empty path above other e is_other);
        exact = λ barriers none. cc;
      }
      at (inr l) = due_in_lane path l.prefix l.last l.parts task l.last.lane refl

  -- the End is the last record and no other one
  ends_at : (records prefix : List Record) (last : Record) → records ≡ prefix ++ last ∷ [] → last.kind ≡ End → All (λ (r : Record). r.kind ≡ End → ⊥) prefix → (k : ℕ) (r : Record) → slice_get records k ≡ Some r
      → (r.kind ≡ End → k + 1 < length records → ⊥) × ((r.kind ≢ End) → k + 1 ≡ length records → ⊥)
  ends_at records prefix last parts ends once k r found = (early, missing)
    where
      long : length records ≡ length prefix + 1
      long = ap length parts ∙ length_push prefix last

      there : slice_get (prefix ++ last ∷ []) k ≡ Some r
      there = subst (λ (l : List Record). slice_get l k ≡ Some r) parts found

      early : r.kind ≡ End → k + 1 < length records → ⊥
      early is less =
          let within : k < length prefix = (let l = long in omega arith) in
          all_at (λ (t : Record). t.kind ≡ End → ⊥) prefix k r once (sym (get_left prefix (last ∷ []) k within) ∙ there) is

      missing : (r.kind ≢ End) → k + 1 ≡ length records → ⊥
      missing isn whole =
          let place : length prefix + 0 ≡ k = (let l = long in omega arith) in
          let here : slice_get (prefix ++ last ∷ []) k ≡ Some last = subst (λ (i : ℕ). slice_get (prefix ++ last ∷ []) i ≡ Some last) place (get_right prefix (last ∷ []) 0) in
          isn (ap (λ (t : Record). t.kind) (same_Some r last (sym there ∙ here)) ∙ ends)

  begun : (path : List Step) (k : ℕ) (r : Record) → slice_get (logs_of trace path) k ≡ Some r → IsTask (logs_of trace) path
  begun path k r found = let within = slice_get_within (logs_of trace path) k r found in omega arith

  -- what comes before an End is all but it
  record HasAll (path : List Step) (k : ℕ) : Type 0 where
    regions : region_count (logs_of trace path) ≡ region_count (take k (logs_of trace path))
    barriers : barrier_count (logs_of trace path) ≡ barrier_count (take k (logs_of trace path))

  all_before : (path : List Step) (k : ℕ) (r : Record) → slice_get (logs_of trace path) k ≡ Some r → r.kind ≡ End → HasAll path k
  all_before path k r found is =
      let e = tree.ends.ended path (begun path k r found) in
      let within = slice_get_within (logs_of trace path) k r found in
      let long : length (logs_of trace path) ≡ length e.prefix + 1 = ap length e.parts ∙ length_push e.prefix e.last in
      let never = (ends_at (logs_of trace path) e.prefix e.last e.parts e.ends e.once k r found).0 is in
      let place : k ≡ length e.prefix = last_place k (length (logs_of trace path)) (length e.prefix) within long never in
      let before : take k (logs_of trace path) ≡ e.prefix = ap (take k) e.parts ∙ take_at e.prefix (e.last ∷ []) k (sym place) in
      record {
        regions = regions_of_first e.prefix e.last (logs_of trace path) e.parts e.ends ∙ ap region_count (sym before);
        barriers = barriers_of_first e.prefix e.last (logs_of trace path) e.parts e.ends ∙ ap barrier_count (sym before);
      }
    where
      last_place : (i n m : ℕ) → i < n → n ≡ m + 1 → (i + 1 < n → ⊥) → i ≡ m
      last_place i n m less long never = grind arith

  -- a Region has its row
  region_listed : (path : List Step) (k : ℕ) (r : Record) → slice_get (logs_of trace path) k ≡ Some r → r.kind ≡ Region
      → ListsRegion (rows_of trace) path (region_count (take k (logs_of trace path))) r.value
  region_listed path k r found is =
      let spans : SpanIsTabled Region r = subst (λ (kind : Kind). SpanIsTabled kind r) is ((tabled (record { path = path; index = k }) r found).passes why.Span) in
      let some = spans.0 in
      region_of (rows_of trace) path (record { region = region_count (take k (logs_of trace path)); lane = 0; span = r.value })
      (lane_listed (record { path = path; index = k }) 0 r.value (lane_of path (region_count (take k (logs_of trace path))) 0 r.value)
      (record { event = r; found = found; region = is; spans = refl; in_span = omega arith; child = refl }))

  -- and each row has its Region
  row_forked : (path : List Step) (region span : ℕ) → ListsRegion (rows_of trace) path region span → region < region_count (logs_of trace path)
  row_forked path region span r =
      let listed : Contains paths (path ++ record { region = region; lane = r.lane; span = span } ∷ []) =
      subst (λ (p : List Step). Contains paths p) r.child (path_listed (rows_of trace) r.row r.listed) in
      let forked = tree.tasks.forked path (record { region = region; lane = r.lane; span = span }) (has_begun trace rows (path ++ record { region = region; lane = r.lane; span = span } ∷ []) listed) in
      let number : regions_before (logs_of trace) forked.fork ≡ region =
      ap (λ (t : Step). t.region) (same_from_push forked.fork.path path (record { region = regions_before (logs_of trace) forked.fork; lane = r.lane; span = span }) (record { region = region; lane = r.lane; span = span }) (sym forked.lane.child)).1 in
      let within = region_within (logs_of trace) forked.fork r.lane span (path ++ record { region = region; lane = r.lane; span = span } ∷ []) forked.lane in
      let same : region_count (logs_of trace forked.fork.path) ≡ region_count (logs_of trace path) = ap (λ (p : List Step). region_count (logs_of trace p)) forked.above in
      omega arith

  root_barrier : (path : List Step) (k : ℕ) (r : Record) → slice_get (logs_of trace path) k ≡ Some r → r.kind ≡ Barrier → path ≡ [] → ⊥
  root_barrier path k r found is root =
      let next = count_next (λ (t : Record). is_barrier_kind t.kind) (logs_of trace path) k r found (rw is refl) in
      let up : barrier_count (take (k + 1) (logs_of trace path)) ≤ barrier_count (logs_of trace path) = sum_by-take-le (λ (t : Record). cond (is_barrier_kind t.kind) 1 0) (logs_of trace path) (k + 1) in
      let none : barrier_count (logs_of trace path) ≡ 0 = ap (λ (p : List Step). barrier_count (logs_of trace p)) root ∙ tree.ends.no_root_barrier in
      omega arith

  breaks_none : (path : List Step) (spans : List ℕ) → ListsSpans (rows_of trace) path spans → (d : HasDue path) (k : ℕ) (r : Record) → slice_get (logs_of trace path) k ≡ Some r → (rule : RecordWhy)
      → Breaks (record { path = path; records = length (logs_of trace path); spans = spans; due_barriers = d.due }) (take k (logs_of trace path)) r rule → ⊥
  breaks_none path spans lists d k r found rule breaks = at rule breaks
    where
      is_nested : IsNestedRecord (held_after [] (take k (logs_of trace path))) r
      is_nested = nested (record { path = path; index = k }) r found

      place : length (take k (logs_of trace path)) ≡ k
      place = let within = slice_get_within (logs_of trace path) k r found in length-take-le k (logs_of trace path) (omega arith)

      e : EndsOnce (logs_of trace path)
      e = tree.ends.ended path (begun path k r found)

      spanned : r.kind ≡ Region → slice_get spans (region_count (take k (logs_of trace path))) ≡ Some r.value
      spanned is = (lists (region_count (take k (logs_of trace path))) r.value).0 (region_listed path k r found is)

      too_few : r.kind ≡ End → region_count (take k (logs_of trace path)) < length spans → ⊥
      too_few is less =
          let row = (lists (region_count (take k (logs_of trace path))) (get_or spans (region_count (take k (logs_of trace path))) 0)).1 (slice_get-get_or spans (region_count (take k (logs_of trace path))) 0 less) in
          let more = row_forked path (region_count (take k (logs_of trace path))) (get_or spans (region_count (take k (logs_of trace path))) 0) row in
          let all = (all_before path k r found is).regions in
          omega arith

      at : (rule : RecordWhy) → Breaks (record { path = path; records = length (logs_of trace path); spans = spans; due_barriers = d.due }) (take k (logs_of trace path)) r rule → ⊥
      at log.Header b = b
      at log.Cut b = b
      at log.Kind b = b
      at log.Size b = b
      at log.LineZero b = b
      at log.Address b = b
      at log.Span b = b
      at log.Reserved b = b
      at log.Extra b = b
      at log.EndEarly (is, less) = (ends_at (logs_of trace path) e.prefix e.last e.parts e.ends e.once k r found).0 is (let p = place in omega arith)
      at log.EndMissing (isn, whole) = (ends_at (logs_of trace path) e.prefix e.last e.parts e.ends e.once k r found).1 isn (let p = place in omega arith)
      at log.LockTwice (is, holds) = is_nested.once is holds
      at log.LocksDeep (is, deep) = is_nested.limit is deep
      at log.UnlockOther (is, other) = is_nested.last is other
      at log.RootBarrier (is, root) = root_barrier path k r found is root
      at log.BarrierLocked (is, some) = is_nested.none (inl is) some
      at log.RegionLocked (is, some) = is_nested.none (inr (inl is)) some
      at log.LockOpen (is, some) = is_nested.none (inr (inr is)) some
      at log.RegionRows (inl (is, other)) = other (spanned is)
      at log.RegionRows (inr (is, less)) = too_few is less
      at log.BarrierCount (is, (barriers, known, other)) = other (sym ((all_before path k r found is).barriers) ∙ sym (d.exact barriers known))

  task_keeps : (path : List Step) → Contains paths path → TaskKeepsRules format trace (record { path = path; records = logs_of trace path })
  task_keeps path listed =
      let s = spans_listed paths path rows.lists listed in
      let d = has_due path (has_begun trace rows path listed) in
      record {
        tabled = all_by (IsTabled format) (logs_of trace path) (λ k r found. tabled (record { path = path; index = k }) r found);
        spans = s.spans;
        has_spans = lists_spans (rows_of trace) path s.spans s.are;
        due_barriers = d.due;
        knows_team = d.knows;
        keeps = breaks_none path s.spans (lists_spans (rows_of trace) path s.spans s.are) d;
      }

  pub keeps_rules : KeepsRules format trace
  keeps_rules = record {
    rows = rows;
    tasks = all_by (TaskKeepsRules format trace) trace (λ index task found.
        subst (λ (records : List Record). TaskKeepsRules format trace (record { path = task.path; records = records }))
        (logs_at trace (subst IsListing (paths_same trace) rows.lists) index task found)
        (task_keeps task.path (path_at trace index task found)));
  }

pub rules_kept : (format : Format) (trace : Trace) → KeepsRules format trace ↔ (IsForkJoin (logs_of trace) × AreRows (rows_of trace) × AreTabled format (logs_of trace) × AreNested (logs_of trace))
rules_kept format trace = (
  λ good. (fork_join trace good, good.rows, are_tabled trace good, are_nested trace good),
  λ p. keeps_rules trace p.0 p.1 p.2 p.3,
)
