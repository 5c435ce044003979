-- The run of two lanes that stopped.
use Rattle.std.proofs.Common.{◌≡◌, refl, ap, inl, ℕ, ◌<◌, List, [], ◌∷◌, ◌++◌, arith, rules}
use Rattle.std.specs.Prelude.{drop}
use Rattle.log_format.specs.declared.record.Record.{Record}
use Rattle.log_format.specs.declared.record.Kind.TheVariants as kind
use Rattle.log_format.specs.Fitting.{wrapped}
use Rattle.sw_base.specs.declared.path.Step.{Step}
use Rattle.race_model.specs.Listing.{Ends, Forks, Lane, NoLane}
use Rattle.race_model.specs.Order.{IsLane}
use Rattle.race_model.specs.Trace.{Node, logs_of}
use Rattle.kernel_model.specs.State as state
use Rattle.kernel_model.specs.declared.stop.StopWhy.TheVariants as reason
use Rattle.kernel_model.specs.State.{event, put}
use Rattle.kernel_model.specs.Trace.{Stopped, run, draw, task}
use Rattle.kernel_model.specs.Value.{value, read}
use Rattle.kernel_model.specs.Folder.{root_start, start_at}
use Rattle.history_model.specs.Work.{Work, Rest, Put, Fork, Phases, Phase, NoPhase, Beside, NoWork, lane_works}
use Rattle.history_model.specs.Did.{did}
use Rattle.history_model.specs.Joined.{IsJoined}
use Rattle.history_model.specs.Sound.{IsSound, AreFitted}
use Rattle.execution_model.specs.Execution.{DrewSome, IsExecution}
use Rattle.execution_model.specs.Runs.{RunsTask, RunsRegions, lane_begin, logged_tasks, region_logs}
use Rattle.execution_laws.specs.Nesting.{NestsWithin}
use Rattle.step_history.specs.History.{HasHistory}
use Rattle.serial_model.proofs.Legal.{serial_history}
use Rattle.region_runner.specs.Answer.{IsLeast}
use Rattle.execution_model.specs.Stops.{EndsTask}
use Rattle.run_command.specs.Run.{AreStopped}
use Rattle.run_cases.specs.TwoLanes.{accessed, body, dir, first_log, kernel, team_path, logs, second_log, size, tasks, tasks_of}
use Rattle.run_cases.proofs.Impossible.{no_more, not_empty}
use Rattle.run_cases.proofs.StoppedRuns.{are_stopped, both_lanes, ends_last, executes, first_lane, layout}
use Rattle.run_cases.proofs.Undrawn.{none_drawn}

-- ---- the tree of work

abbrev barrier : ℕ → Work
barrier line = Put (event kind.Barrier line 0 0) Rest

abbrev phases : Phases
phases =
    Phase (Beside (Put (accessed kind.Write 4 0 4096 1) (barrier 5)) (Beside (barrier 5) NoWork))
    (Phase (Beside Rest (Beside (Put (accessed kind.Read 6 2 4096 1) (Put (accessed kind.Write 6 3 4104 1) (barrier 7))) NoWork)) NoPhase)

abbrev work : Work
work = Fork 3 2 phases Rest

abbrev fork : state.Fork
fork = record { team = record { span = 2; line = 3; end = 9; body = body }; slots = [] }

abbrev words : List ℕ
words = 1 ∷ 1 ∷ []

first_runs : RunsTask kernel (lane_begin fork 0) (lane_works 0 phases)
unfolding run value put read draw task wrapped
first_runs = RunsTask.runs (lane_begin fork 0) (lane_works 0 phases) [] [] (record { rest = []; begins = refl }) (inl refl) refl RunsRegions.no_region

second_runs : RunsTask kernel (lane_begin fork 1) (lane_works 1 phases)
unfolding run value put read draw task wrapped
second_runs = RunsTask.runs (lane_begin fork 1) (lane_works 1 phases) [] [] (record { rest = event kind.Barrier 8 0 0 ∷ event kind.End 9 0 0 ∷ []; begins = refl }) (inl refl) refl RunsRegions.no_region

lane_runs : (lane : ℕ) → lane < 2 → RunsTask kernel (lane_begin fork lane) (lane_works lane phases)
lane_runs = both_lanes (λ lane. RunsTask kernel (lane_begin fork lane) (lane_works lane phases)) first_runs second_runs

drawn : (loop : ℕ) → DrewSome (region_logs phases 2) loop
drawn loop = none_drawn (region_logs phases 2) loop (refl, refl, (refl, refl, tt))

runs : RunsTask kernel (root_start kernel) (work ∷ [])
unfolding run value put read draw task wrapped
runs =
    RunsTask.runs (root_start kernel) (work ∷ []) (fork ∷ []) [] (record { rest = event kind.End 10 0 0 ∷ []; begins = refl }) (inl refl) refl
    (RunsRegions.region fork [] (record { span = 2; phases = phases }) [] refl lane_runs drawn RunsRegions.no_region)

sound : IsSound layout work
unfolding wrapped
sound = search rules

nests : NestsWithin 1 work
nests = search rules

joined : IsJoined work
joined = (inl refl, ((tt, (tt, tt)), ((tt, (tt, tt)), tt)), tt)

fitted : AreFitted layout words words
unfolding wrapped
fitted = search rules

history : HasHistory (did layout.word [] 0 work) words
history = serial_history layout.word work words (search rules) (search rules)

same_tasks : logged_tasks 1 work ≡ tasks
unfolding wrapped
same_tasks = refl

-- ---- where it stopped

ends : EndsTask kernel tasks (team_path 0) (Stopped reason.Index 6)
unfolding run value put read draw task wrapped start_at
ends = record { listed = (1, omega arith, refl); start = lane_begin fork 0; starts = refl; traced = record { records_are = refl; ended = refl } }

least : IsLeast tasks (team_path 0)
least [] step below is lane less = let none : 0 ≡ step.lane = ap first_lane is in absurd (omega (arith, none))
least (s ∷ above) step below is lane less = absurd (not_empty above below step (ap (λ (path : List Step). drop 1 path) is))

pub stopped : AreStopped ⊥ kernel dir size logs (team_path 0) 6 reason.Index
stopped =
    are_stopped kernel tasks words (team_path 0) 6 reason.Index (λ is. cc) (executes kernel tasks 1 work 1 1 same_tasks sound joined runs nests fitted history)
    (record { root = Forks Ends (Lane Ends NoLane) Ends; lists = refl }) ends least

-- ---- lanes that went on too early

abbrev fork_node : Node
fork_node = record { path = []; index = 0 }

pub is_lane : (more second : List Record) (lane : ℕ) → lane < 2 → IsLane (logs_of (tasks_of more second)) fork_node lane 2 (team_path lane)
is_lane more second lane less = record { event = event kind.Region 3 0 2; found = refl; region = refl; spans = refl; in_span = less; child = refl }

pub barrier_too_many : (address : ℕ → ℕ) (words : List ℕ) → IsExecution kernel (tasks_of [] (second_log 1 ++ event kind.Barrier 8 0 0 ∷ [])) address words → ⊥
barrier_too_many address words e =
    let second = second_log 1 ++ event kind.Barrier 8 0 0 ∷ [] in
    no_more 2 1 (e.met fork_node 1 0 2 (team_path 1) (team_path 0) 4 (is_lane [] second 1 (omega arith)) (is_lane [] second 0 (omega arith)) (omega arith)) (omega arith)

pub root_too_early : (address : ℕ → ℕ) (words : List ℕ) → IsExecution kernel (tasks_of (event kind.End 10 0 0 ∷ []) (second_log 1)) address words → ⊥
root_too_early address words e =
    let ends : kind.Barrier ≡ kind.End = ends_last (event kind.Barrier 5 0 0) first_log (e.joined fork_node 0 2 (team_path 0) (is_lane (event kind.End 10 0 0 ∷ []) (second_log 1) 0 (omega arith)) (omega arith)) in
    cc
