-- The run that stopped in a nested region.
use Rattle.std.proofs.Common.{◌≡◌, refl, ap, subst, inl, inr, ℕ, zero, suc, ◌<◌, List, [], ◌∷◌, arith, rules}
use Rattle.std.specs.Prelude.{drop}
use Rattle.log_format.specs.declared.record.Kind.TheVariants as kind
use Rattle.log_format.specs.Fitting.{wrapped}
use Rattle.sw_base.specs.declared.path.Step.{Step}
use Rattle.race_model.specs.Listing.{Ends, Forks, Lane, NoLane, lane_of}
use Rattle.race_model.specs.Trace.{logs_of}
use Rattle.kernel_model.specs.State as state
use Rattle.kernel_model.specs.declared.stop.StopWhy.TheVariants as reason
use Rattle.kernel_model.specs.State.{event, put}
use Rattle.kernel_model.specs.Trace.{Stopped, run, draw, task}
use Rattle.kernel_model.specs.Value.{value, read}
use Rattle.kernel_model.specs.Folder.{root_start, start_at}
use Rattle.history_model.specs.Work.{Work, Rest, Put, Fork, Phases, Phase, NoPhase, Beside, NoWork, lane_works}
use Rattle.history_model.specs.Did.{did}
use Rattle.history_model.specs.Joined.{IsJoined}
use Rattle.history_model.specs.Sound.{IsSound, AreFitted}
use Rattle.execution_model.specs.Execution.{DrewSome}
use Rattle.execution_model.specs.Runs.{RunsTask, RunsRegions, lane_begin, logged_tasks, region_logs}
use Rattle.execution_laws.specs.Nesting.{NestsWithin}
use Rattle.step_history.specs.History.{HasHistory}
use Rattle.serial_model.proofs.Legal.{serial_history}
use Rattle.lane_runner.specs.declared.stop.Stop.TheVariants as stop
use Rattle.lane_runner.specs.Stopping.{GoesFurther}
use Rattle.region_runner.specs.Answer.{IsLeast, StopsIn}
use Rattle.execution_model.specs.Stops.{EndsTask}
use Rattle.run_command.specs.Run.{AreStopped}
use Rattle.run_cases.specs.TwoLanes.{dir, team_path, size}
use Rattle.run_cases.specs.Nested.{inner, inner_path, kernel, logs, outer, tasks}
use Rattle.run_cases.proofs.Impossible.{no_more, not_empty}
use Rattle.run_cases.proofs.Undrawn.{none_drawn}
use Rattle.run_cases.proofs.StoppedRuns.{are_stopped, both_lanes, ends_last, executes, first_lane, layout}

-- ---- the tree of work

abbrev inner_phases : Phases
inner_phases = Phase (Beside (Put (event kind.Barrier 7 0 0) Rest) (Beside Rest NoWork)) NoPhase

abbrev outer_phases : Phases
outer_phases = Phase (Beside (Fork 5 2 inner_phases Rest) (Beside Rest NoWork)) NoPhase

abbrev work : Work
work = Fork 3 2 outer_phases Rest

abbrev outer_fork : state.Fork
outer_fork = record { team = record { span = 2; line = 3; end = 10; body = outer }; slots = [] }

abbrev inner_fork : state.Fork
inner_fork = record { team = record { span = 2; line = 5; end = 8; body = inner }; slots = [] }

abbrev words : List ℕ
words = 0 ∷ 0 ∷ []

inner_first : RunsTask kernel (lane_begin inner_fork 0) (lane_works 0 inner_phases)
unfolding run value put read draw task wrapped
inner_first = RunsTask.runs (lane_begin inner_fork 0) (lane_works 0 inner_phases) [] [] (record { rest = event kind.End 8 0 0 ∷ []; begins = refl }) (inl refl) refl RunsRegions.no_region

inner_second : RunsTask kernel (lane_begin inner_fork 1) (lane_works 1 inner_phases)
unfolding run value put read draw task wrapped
inner_second = RunsTask.runs (lane_begin inner_fork 1) (lane_works 1 inner_phases) [] [] (record { rest = []; begins = refl }) (inl refl) refl RunsRegions.no_region

inner_runs : (lane : ℕ) → lane < 2 → RunsTask kernel (lane_begin inner_fork lane) (lane_works lane inner_phases)
inner_runs = both_lanes (λ lane. RunsTask kernel (lane_begin inner_fork lane) (lane_works lane inner_phases)) inner_first inner_second

inner_drawn : (loop : ℕ) → DrewSome (region_logs inner_phases 2) loop
inner_drawn loop = none_drawn (region_logs inner_phases 2) loop (refl, refl, (refl, refl, tt))

outer_drawn : (loop : ℕ) → DrewSome (region_logs outer_phases 2) loop
outer_drawn loop = none_drawn (region_logs outer_phases 2) loop (refl, refl, (refl, refl, tt))

outer_first : RunsTask kernel (lane_begin outer_fork 0) (lane_works 0 outer_phases)
unfolding run value put read draw task wrapped
outer_first =
    RunsTask.runs (lane_begin outer_fork 0) (lane_works 0 outer_phases) (inner_fork ∷ []) [] (record { rest = event kind.End 10 0 0 ∷ []; begins = refl }) (inl refl) refl
    (RunsRegions.region inner_fork [] (record { span = 2; phases = inner_phases }) [] refl inner_runs inner_drawn RunsRegions.no_region)

outer_second : RunsTask kernel (lane_begin outer_fork 1) (lane_works 1 outer_phases)
unfolding run value put read draw task wrapped
outer_second = RunsTask.runs (lane_begin outer_fork 1) (lane_works 1 outer_phases) [] [] (record { rest = []; begins = refl }) (inl refl) refl RunsRegions.no_region

outer_runs : (lane : ℕ) → lane < 2 → RunsTask kernel (lane_begin outer_fork lane) (lane_works lane outer_phases)
outer_runs = both_lanes (λ lane. RunsTask kernel (lane_begin outer_fork lane) (lane_works lane outer_phases)) outer_first outer_second

runs : RunsTask kernel (root_start kernel) (work ∷ [])
unfolding run value put read draw task wrapped
runs =
    RunsTask.runs (root_start kernel) (work ∷ []) (outer_fork ∷ []) [] (record { rest = event kind.End 11 0 0 ∷ []; begins = refl }) (inl refl) refl
    (RunsRegions.region outer_fork [] (record { span = 2; phases = outer_phases }) [] refl outer_runs outer_drawn RunsRegions.no_region)

sound : IsSound layout work
sound = search rules

nests : NestsWithin 2 work
nests = search rules

joined : IsJoined work
joined = (inl refl, (((inl refl, ((tt, (tt, tt)), tt), tt), (tt, tt)), tt), tt)

fitted : AreFitted layout words words
unfolding wrapped
fitted = search rules

history : HasHistory (did layout.word [] 0 work) words
history = serial_history layout.word work words (search rules) (search rules)

same_tasks : logged_tasks 2 work ≡ tasks
same_tasks = refl

-- ---- where it stopped

ends : EndsTask kernel tasks (inner_path 1) (Stopped reason.DivZero 6)
unfolding run value put read draw task wrapped start_at
ends = record { listed = (3, omega arith, refl); start = lane_begin inner_fork 1; starts = refl; traced = record { records_are = refl; ended = refl } }

-- lane 1 of the outer team stopped, too
pub later_ends : EndsTask kernel tasks (team_path 1) (Stopped reason.Index 9)
unfolding run value put read draw task wrapped start_at
later_ends = record { listed = (4, omega arith, refl); start = lane_begin outer_fork 1; starts = refl; traced = record { records_are = refl; ended = refl } }

abbrev outer_step : Step
outer_step = record { region = 0; lane = 0; span = 2 }

abbrev inner_step : Step
inner_step = record { region = 0; lane = 1; span = 2 }

abbrev first_step : List Step → Step
first_step [] = outer_step
first_step (step ∷ path) = step

abbrev Further : Step → Step → ℕ → Type 0
Further s t lane = GoesFurther (logs_of tasks (lane_of (s ∷ []) t.region lane t.span)) (logs_of tasks (s ∷ t ∷ []))

further : (lane : ℕ) → lane < 1 → Further outer_step inner_step lane
further zero less = inl (omega arith)
further (suc n) less = absurd (omega arith)

least : IsLeast tasks (inner_path 1)
least [] step below is lane less = let none : 0 ≡ step.lane = ap first_lane is in absurd (omega (arith, none))
least (s ∷ []) step below is lane less =
    let second : inner_step ≡ step = ap (λ (path : List Step). first_step (drop 1 path)) is in
    let small : 1 ≡ step.lane = ap (λ (t : Step). t.lane) second in
    subst (λ (x : Step). Further x step lane) (ap first_step is) (subst (λ (t : Step). Further outer_step t lane) second (further lane (omega (arith, small))))
least (s ∷ t ∷ above) step below is lane less = absurd (not_empty above below step (ap (λ (path : List Step). drop 2 path) is))

pub stopped : AreStopped ⊥ kernel dir size logs (inner_path 1) 6 reason.DivZero
stopped =
    are_stopped kernel tasks words (inner_path 1) 6 reason.DivZero (λ is. cc) (executes kernel tasks 2 work 0 0 same_tasks sound joined runs nests fitted history)
    (record { root = Forks (Forks Ends (Lane Ends NoLane) Ends) (Lane Ends NoLane) Ends; lists = refl }) ends least

-- ---- another lane

pub later_lane : StopsIn kernel tasks (team_path 1) (stop.Index 9) → ⊥
later_lane s = by (s.least tt [] inner_step [] refl 0 (omega arith)) where
  by : GoesFurther (logs_of tasks (team_path 0)) (logs_of tasks (team_path 1)) → ⊥
  by (inl less) = no_more 1 0 less (omega arith)
  by (inr end) = let ends : kind.Region ≡ kind.End = ends_last (event kind.Region 5 0 2) (event kind.Region 5 0 2 ∷ []) end in cc
