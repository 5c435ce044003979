-- Where the root of an execution ended, every task did, and the tasks are those of a whole run.
use Rattle.std.proofs.Common.{◌≡◌, refl, ap, sym, ◌∙◌, subst, inl, inr, ◌⊎◌, ℕ, zero, suc, ◌+◌, ◌<◌, arith, Bool, true, false, cond, List, [], ◌∷◌, ◌++◌, length, take, slice_get, Option, Some, None, IsSome, length-append, true≢false}
use Rattle.std.specs.Prelude.{option_map, is_some}
use Rattle.std.specs.List.{cons_option}
use Rattle.std.proofs.lemmas.Option.{same_Some, slice_get-map}
use Rattle.std.proofs.lemmas.List.Sums.{sum_by-cons}
use Rattle.sw_base.specs.declared.path.Step.{Step}
use Rattle.execution_laws.proofs.LoggedTasks.{listed_or}
use Rattle.log_format.specs.declared.record.Record.{Record}
use Rattle.log_format.specs.declared.record.Kind.{Kind}
use Rattle.log_format.specs.declared.record.Kind.TheVariants as kind
use Rattle.race_model.specs.Listing.{lane_of, IsListing}
use Rattle.race_model.specs.ForkJoin.{ListsTask}
use Rattle.race_model.specs.Order.{IsLane}
use Rattle.race_model.specs.Trace.{TaskLog, Trace, Logs, Node, logs_of, is_region_kind, region_count}
use Rattle.race_laws.proofs.ListedOnce.{logs_at}
use Rattle.kernel_syntax.specs.Program.{Program}
use Rattle.kernel_model.specs.State.{Fork}
use Rattle.kernel_model.specs.Trace.{Start}
use Rattle.kernel_model.specs.Folder.{own_trace, root_start, lane_start, start_at, IsTraced, IsTracedTask, IsTracedFolder, paths_of}
use Rattle.kernel_rules.proofs.DistinctPaths.{listed_once}
use Rattle.kernel_rules.proofs.EndedTraces.{IsWholeTrace, whole_trace}
use Rattle.kernel_model.proofs.Starts.{lane_started, at_lane, at_root, descend}
use Rattle.kernel_rules.proofs.LawfulFolder.{each_task}
use Rattle.kernel_rules.proofs.LawfulRecords.{span_told, spans_of}
use Rattle.history_model.specs.Joined.{LastIsEnd}
use Rattle.execution_model.specs.Execution.{IsExecution, IsBegun}

-- ---- the Region record of a number

record RegionRecord (records : List Record) (k span : ℕ) : Type 0 where
  index : ℕ
  event : Record
  found : slice_get records index ≡ Some event
  region : event.kind ≡ kind.Region
  value : event.value ≡ span
  before : region_count (take index records) ≡ k

abbrev number : Bool → ℕ
number b = cond b 1 0

count_first : (r : Record) (records : List Record) → region_count (r ∷ records) ≡ number (is_region_kind r.kind) + region_count records
count_first r records = sum_by-cons (λ (x : Record). number (is_region_kind x.kind)) r records

further : (r : Record) (records : List Record) (k j span : ℕ) → number (is_region_kind r.kind) + k ≡ j → RegionRecord records k span → RegionRecord (r ∷ records) j span
further r records k j span more it = record {
  index = suc it.index;
  event = it.event;
  found = it.found;
  region = it.region;
  value = it.value;
  before = let first = count_first r (take it.index records) in let rest = it.before in omega arith;
}

region_at : (records : List Record) (k span : ℕ) → slice_get (spans_of records) k ≡ Some span → RegionRecord records k span
region_at [] k span told = absurd cc
region_at (r ∷ records) k span told = by r.kind refl k told (λ j later. region_at records j span later)
  where
    by : (kd : Kind) → r.kind ≡ kd → (j : ℕ) → slice_get (cons_option (span_told kd r.value) (spans_of records)) j ≡ Some span →
        ((i : ℕ) → slice_get (spans_of records) i ≡ Some span → RegionRecord records i span) → RegionRecord (r ∷ records) j span
    by kind.Region is zero told later = record { index = 0; event = r; found = refl; region = is; value = same_Some r.value span told; before = refl }
    by kind.Region is (suc j) told later =
        let one : number (is_region_kind r.kind) ≡ 1 = ap (λ (x : Kind). number (is_region_kind x)) is in
        further r records j (suc j) span (omega arith) (later j told)
    by kind.Read is j told later = further r records j j span (let none = ap (λ (x : Kind). number (is_region_kind x)) is in omega arith) (later j told)
    by kind.Write is j told later = further r records j j span (let none = ap (λ (x : Kind). number (is_region_kind x)) is in omega arith) (later j told)
    by kind.Lock is j told later = further r records j j span (let none = ap (λ (x : Kind). number (is_region_kind x)) is in omega arith) (later j told)
    by kind.Unlock is j told later = further r records j j span (let none = ap (λ (x : Kind). number (is_region_kind x)) is in omega arith) (later j told)
    by kind.Barrier is j told later = further r records j j span (let none = ap (λ (x : Kind). number (is_region_kind x)) is in omega arith) (later j told)
    by kind.Chunk is j told later = further r records j j span (let none = ap (λ (x : Kind). number (is_region_kind x)) is in omega arith) (later j told)
    by kind.Update is j told later = further r records j j span (let none = ap (λ (x : Kind). number (is_region_kind x)) is in omega arith) (later j told)
    by kind.End is j told later = further r records j j span (let none = ap (λ (x : Kind). number (is_region_kind x)) is in omega arith) (later j told)

-- a Region record isn't the last of a log that ends with End
within_log : (records prefix : List Record) (last : Record) (index : ℕ) (event : Record) → records ≡ prefix ++ last ∷ [] → last.kind ≡ kind.End →
    slice_get records index ≡ Some event → event.kind ≡ kind.Region → index + 1 < length records
within_log records prefix last index event parts ends found region =
    subst (λ (rs : List Record). index + 1 < length rs) (sym parts)
    (by prefix index (subst (λ (rs : List Record). slice_get rs index ≡ Some event) parts found))
  where
    by : (before : List Record) (i : ℕ) → slice_get (before ++ last ∷ []) i ≡ Some event → i + 1 < length (before ++ last ∷ [])
    by [] zero at = let same : last ≡ event = same_Some last event at in absurd (let no : kind.End ≡ kind.Region = sym ends ∙ ap (λ (r : Record). r.kind) same ∙ region in cc)
    by [] (suc i) at = absurd cc
    by (r ∷ before) zero at = omega (arith, length-append before (last ∷ []))
    by (r ∷ before) (suc i) at = let rest = by before i at in omega arith

-- ---- tasks

listed_at : (tasks : Trace) (k : ℕ) (task : TaskLog) → slice_get tasks k ≡ Some task → ListsTask tasks task.path
listed_at [] k task found = absurd cc
listed_at (t ∷ tasks) zero task found = (0, omega arith, ap (λ (x : TaskLog). x.path) (same_Some t task found))
listed_at (t ∷ tasks) (suc k) task found = let rest = listed_at tasks k task found in (suc rest.0, let within = rest.1 in omega arith, rest.2)

module _ (program : Program) (tasks : Trace) (address : ℕ → ℕ) (words : List ℕ) (x : IsExecution program tasks address words) (listing : IsListing (paths_of tasks))
    (ended : LastIsEnd (logs_of tasks [])) where
  abbrev logs : Logs
  logs = logs_of tasks

  -- a task is listed, and its log is its whole trace
  record IsWhole (path : List Step) (start : Start) : Type 0 where
    listed : ListsTask tasks path
    ends : LastIsEnd (logs path)
    whole : IsWholeTrace program start (logs path)

  whole_at : (path : List Step) (start : Start) → ListsTask tasks path → LastIsEnd (logs path) → start_at program logs path ≡ Some start → IsWhole path start
  whole_at path start listed ends starts =
      let it : IsBegun program logs path = x.traced path listed in
      let same : it.start ≡ start = same_Some it.start start (sym it.starts ∙ starts) in
      record {
        listed = listed;
        ends = ends;
        whole =
            subst (λ (s : Start). IsWholeTrace program s (logs path)) same
            (whole_trace program it.start (logs path) it.begun.rest it.begun.begins
            (record { prefix = ends.prefix; last = ends.last; parts = ends.parts; ends = ends.ends }));
      }

  ended_listed : (path : List Step) → LastIsEnd (logs path) → ListsTask tasks path
  ended_listed path ends = by (listed_or tasks path)
    where
      by : ListsTask tasks path ⊎ (logs path ≡ []) → ListsTask tasks path
      by (inl listed) = listed
      by (inr none) =
          let size : 0 ≡ length (ends.prefix ++ ends.last ∷ []) = ap length (sym none ∙ ends.parts) in
          absurd (omega (arith, length-append ends.prefix (ends.last ∷ [])))

  -- a lane of a whole task's region
  lane_whole : (above : List Step) (up : Start) (step : Step) (next : Start) → IsWhole above up → start_at program logs above ≡ Some up →
      lane_start (slice_get (own_trace program up (logs above)).forks step.region) step ≡ Some next → start_at program logs (above ++ step ∷ []) ≡ Some next →
      IsWhole (above ++ step ∷ []) next
  lane_whole above up step next at starts is begins =
      let forks = (own_trace program up (logs above)).forks in
      let lane = lane_started (slice_get forks step.region) step next is in
      let told : slice_get (spans_of (logs above)) step.region ≡ Some step.span =
      ap (λ (l : List ℕ). slice_get l step.region) at.whole.spans
      ∙ slice_get-map (λ (f : Fork). f.team.span) forks step.region
      ∙ ap (λ o. option_map (λ (f : Fork). f.team.span) o) lane.forked
      ∙ ap (λ (n : ℕ). Some n) (sym lane.span) in
      let region = region_at (logs above) step.region step.span told in
      let fork : Node = record { path = above; index = region.index } in
      let path = above ++ step ∷ [] in
      let is_lane : IsLane logs fork step.lane step.span path = record {
        event = region.event;
        found = region.found;
        region = region.region;
        spans = region.value;
        in_span = lane.lane;
        child = ap (λ (n : ℕ). lane_of above n step.lane step.span) (sym region.before);
      } in
      let ends = x.joined fork step.lane step.span path is_lane
      (within_log (logs above) at.ends.prefix at.ends.last region.index region.event at.ends.parts at.ends.ends region.found region.region) in
      whole_at path next (ended_listed path ends) ends begins

  all_whole : (path : List Step) (start : Start) → start_at program logs path ≡ Some start → IsWhole path start
  all_whole path start starts =
      descend program logs IsWhole (whole_at [] (root_start program) x.tree.root ended (at_root program logs))
      (λ above up step next at begins is. lane_whole above up step next at begins is (at_lane program logs above up step begins ∙ is)) path start starts

  each_traced : (k : ℕ) (task : TaskLog) → slice_get tasks k ≡ Some task → IsTracedTask program logs task
  each_traced k task found =
      let listed : ListsTask tasks task.path = listed_at tasks k task found in
      let it : IsBegun program logs task.path = x.traced task.path listed in
      let whole = all_whole task.path it.start it.starts in
      record { start = it.start; starts = it.starts; traced = subst (λ (rs : List Record). IsTraced program it.start rs) (logs_at tasks listing k task found) whole.whole.traced }

  pub whole_folder : IsTracedFolder program tasks
  whole_folder = record {
    each = each_task (IsTracedTask program logs) tasks each_traced;
    all = λ path some. by path (start_at program logs path) refl some;
    once = listed_once (paths_of tasks) listing;
  }
    where
      by : (path : List Step) (o : Option Start) → start_at program logs path ≡ o → IsSome (start_at program logs path) → ListsTask tasks path
      by path None is some = absurd (true≢false (sym (sym (ap is_some is) ∙ some)))
      by path (Some start) is some = (all_whole path start is).listed
