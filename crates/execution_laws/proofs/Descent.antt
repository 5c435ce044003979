-- Down a path of the tree each task has its start and its works.
use Rattle.std.proofs.Common.{◌≡◌, refl, sym, ap, ◌∙◌, subst, ℕ, zero, suc, ◌<◌, List, [], ◌∷◌, ◌++◌, Option, Some, arith}
use Rattle.std.specs.Prelude.{slice_get}
use Rattle.std.specs.List.{flat_map}
use Rattle.std.proofs.lemmas.List.{append-nil, append_assoc}
use Rattle.std.proofs.lemmas.Option.{same_Some}
use Rattle.sw_base.proofs.Lists.{get_more}
use Rattle.sw_base.specs.declared.path.Step.{Step}
use Rattle.log_format.specs.declared.record.Record.{Record}
use Rattle.race_model.specs.Trace.{Logs}
use Rattle.kernel_syntax.specs.Program.{Program}
use Rattle.kernel_model.specs.State.{Fork}
use Rattle.kernel_model.specs.Trace.{Start}
use Rattle.kernel_model.specs.Folder.{own_trace, lane_start, start_below}
use Rattle.kernel_model.proofs.Starts.{starts_lane}
use Rattle.history_model.specs.Work.{Work, RegionWork, work_records, work_regions, lane_works, works_at_step, works_under}
use Rattle.history_laws.proofs.TaskTree.{AreForked, forked_works}
use Rattle.execution_model.specs.Execution.{BeginsTrace, DrewSome}
use Rattle.execution_model.specs.Runs.{works_log, lane_begin, region_logs, AreReleased, RunsTask, RunsRegions}

module _ (program : Program) where
  pub begun_of : (start : Start) (works : List Work) → RunsTask program start works → BeginsTrace program start (works_log works)
  begun_of start works (RunsTask.runs s ws forks later begun released are regions) = begun

  pub released_of : (start : Start) (works : List Work) → RunsTask program start works → AreReleased (flat_map work_records works)
  released_of start works (RunsTask.runs s ws forks later begun released are regions) = released

  -- a region of a task, and the fork that it comes from
  pub record RegionAt (forks : List Fork) (r : ℕ) (work : RegionWork) : Type 0 where
    pub fork : Fork
    pub found : slice_get forks r ≡ Some fork
    pub span_is : work.span ≡ fork.team.span
    pub lanes : (lane : ℕ) → lane < work.span → RunsTask program (lane_begin fork lane) (lane_works lane work.phases)
    pub drew : (loop : ℕ) → DrewSome (region_logs work.phases work.span) loop

  pub region_at : (forks : List Fork) (works : List RegionWork) (r : ℕ) (work : RegionWork) → RunsRegions program forks works → slice_get works r ≡ Some work
      → RegionAt forks r work
  region_at [] [] r work RunsRegions.no_region found = cc
  region_at (f ∷ forks) [] r work runs found = elim runs [ ]
  region_at [] (w ∷ works) r work runs found = elim runs [ ]
  region_at (f ∷ forks) (w ∷ works) zero work (RunsRegions.region fork fs w1 ws span lanes drew later) found =
      subst (λ (x : RegionWork). RegionAt (f ∷ forks) 0 x) (same_Some w work found)
      (record { fork = f; found = refl; span_is = span; lanes = lanes; drew = drew })
  region_at (f ∷ forks) (w ∷ works) (suc r) work (RunsRegions.region fork fs w1 ws span lanes drew later) found =
      let rest = region_at forks works r work later found in
      record { fork = rest.fork; found = rest.found; span_is = rest.span_is; lanes = rest.lanes; drew = rest.drew }

  -- the region that a task forked, and its fork in the trace
  pub task_region : (start : Start) (works : List Work) (r : ℕ) (work : RegionWork) → RunsTask program start works → slice_get (flat_map work_regions works) r ≡ Some work
      → RegionAt (own_trace program start (works_log works)).forks r work
  task_region start works r work (RunsTask.runs s ws forks later begun released are regions) found =
      let at = region_at forks (flat_map work_regions works) r work regions found in
      record {
        fork = at.fork;
        found = ap (λ (fs : List Fork). slice_get fs r) are ∙ get_more forks later r at.fork at.found;
        span_is = at.span_is;
        lanes = at.lanes;
        drew = at.drew;
      }

  -- the task at the path starts so, and has these works
  pub record RunsAt (logs : Logs) (path : List Step) (start : Start) (works : List Work) (steps : List Step) : Type 0 where
    pub begin : Start
    pub starts : start_below program logs path (Some start) steps ≡ Some begin
    pub task : RunsTask program begin (works_under works steps)

  pub down : (logs : Logs) (path : List Step) (start : Start) (works : List Work) (steps : List Step) → RunsTask program start works → AreForked works steps
      → ((more : List Step) → logs (path ++ more) ≡ works_log (works_under works more)) → RunsAt logs path start works steps
  down logs path start works [] task forked same = record { begin = start; starts = refl; task = task }
  down logs path start works (step ∷ steps) task forked same =
      at (λ (begin : Start) lane_task. down logs (path ++ step ∷ []) begin (works_at_step step works) steps lane_task forked.1
      (λ more. ap (λ (p : List Step). logs p) (append_assoc path (step ∷ []) more) ∙ same (step ∷ more)))
    where
      log_here : logs path ≡ works_log works
      log_here = ap (λ (p : List Step). logs p) (sym (append-nil path)) ∙ same []

      from_fork : RegionAt (own_trace program start (works_log works)).forks step.region forked.0.region
      from_fork = task_region start works step.region forked.0.region task forked.0.found

      of_lane : RunsTask program (lane_begin from_fork.fork step.lane) (works_at_step step works)
      of_lane = subst (λ (ws : List Work). RunsTask program (lane_begin from_fork.fork step.lane) ws) (sym (forked_works works step forked.0))
          (from_fork.lanes step.lane (let less = forked.0.within in let spans = forked.0.span_is in omega arith))

      lane_is_started : lane_start (slice_get (own_trace program start (logs path)).forks step.region) step ≡ Some (lane_begin from_fork.fork step.lane)
      lane_is_started =
          ap (λ (rs : List Record). lane_start (slice_get (own_trace program start rs).forks step.region) step) log_here
          ∙ ap (λ (o : Option Fork). lane_start o step) from_fork.found
          ∙ starts_lane from_fork.fork step (sym forked.0.span_is ∙ from_fork.span_is) forked.0.within

      at : ((begin : Start) → RunsTask program begin (works_at_step step works) → RunsAt logs (path ++ step ∷ []) begin (works_at_step step works) steps)
          → RunsAt logs path start works (step ∷ steps)
      at below =
          let rest = below (lane_begin from_fork.fork step.lane) of_lane in
          record {
            begin = rest.begin;
            starts = ap (λ (o : Option Start). start_below program logs (path ++ step ∷ []) o steps) lane_is_started ∙ rest.starts;
            task = rest.task;
          }
