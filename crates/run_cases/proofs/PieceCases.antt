-- Logs that lack two blocks, draws, lanes and regions: which are those of a run, and which aren't.
use Rattle.std.proofs.Common.{◌≡◌, refl, ap, sym, ◌∙◌, subst, ℕ, zero, suc, ◌+◌, ◌*◌, ◌<◌, ◌≤◌, List, [], ◌∷◌, ◌++◌, Option, Some, None, false, arith}
use Rattle.std.specs.Prelude.{slice_get, drop, ◌==◌}
use Rattle.std.specs.List.{flat_map}
use Rattle.std.proofs.lemmas.List.Elements.{All-nil, All-cons}
use Rattle.sw_base.specs.declared.path.Step.{Step}
use Rattle.sw_base.specs.Environment.{Outline}
use Rattle.sw_base.specs.HandedLog.{HandedLog}
use Rattle.sw_base.specs.Pieces.{kept, records_in}
use Rattle.log_format.specs.declared.record.Record.{Record}
use Rattle.log_format.specs.declared.record.Kind.TheVariants as kind
use Rattle.log_format.specs.Spelling.{spelling}
use Rattle.race_model.specs.Draws.{closed_loops, times_drawn, DrewEachOnce}
use Rattle.race_model.specs.Listing.{IsListing, Task, Ends, Forks, NoLane, Lane, lane_count, lane_of, lanes, listing, under}
use Rattle.race_model.specs.Trace.{logs_of}
use Rattle.race_model.proofs.TraceLogs.{all_at}
use Rattle.kernel_syntax.specs.Program.{Program}
use Rattle.kernel_model.specs.State.{event}
use Rattle.kernel_model.specs.Folder.{paths_of}
use Rattle.history_model.specs.Work.{Work, Rest, RegionWork, Phase, NoPhase, Beside, NoWork, work_regions, work_records}
use Rattle.history_model.specs.Joined.{LastIsEnd, PhasesEnd, ArePhasesJoined}
use Rattle.execution_model.specs.Execution.{DrewSome, IsExecution, team_logs}
use Rattle.lane_runner.specs.Stopping.{RestsBelow, HaveEnded}
use Rattle.run_command.specs.Run.{IsTornLog}
use Rattle.run_cases.specs.TwoLanes.{dir, size, main_task, lane_task, team_path, first_log, second_log}
use Rattle.run_cases.proofs.Impossible.{different, not_empty}
use Rattle.run_cases.specs.Pieces.{torn_log, long_log, loop_logs, same_chunk, at_once, after_region}

-- ---- logs

abbrev outline_in : Option Outline → Outline
outline_in None = record { bytes = []; lengths = [] }
outline_in (Some o) = o

pub two_blocks : IsTornLog dir size (lane_task 1 (second_log 1)) (torn_log (second_log 1) 0 [])
unfolding spelling
two_blocks = record {
  outline = told;
  log_is = refl;
  missing = flat_map spelling (second_log 1);
  prefix = refl;
  behind = omega arith;
}
  where
    told : Outline
    told = outline_in (torn_log (second_log 1) 0 []).told

pub one_more : IsTornLog dir size (lane_task 1 long_log) (torn_log long_log 0 []) → ⊥
one_more t =
    let short : 5 ≤ kept (8 ∷ []) + 2 * records_in size = subst (λ (lengths : List ℕ). 5 ≤ kept lengths + 2 * records_in size) (sym (ap (λ (log : HandedLog). (outline_in log.told).lengths) t.log_is)) t.behind in
    omega arith

-- ---- draws

abbrev Closes : ℕ → List Record → Type 0
Closes n records = (m : ℕ) → slice_get (closed_loops records) 0 ≡ Some m → m ≡ n

pub drawn : DrewSome (loop_logs 2) 0
drawn = record { limit = 2; drew = record { once = once; no_other = no_other; closed = All-cons (Closes 2) first (second ∷ []) closes (All-cons (Closes 2) second [] (λ m found. cc) (All-nil (Closes 2))) } }
  where
    first : List Record
    first = event kind.Chunk 3 0 2 ∷ event kind.Chunk 3 2 2 ∷ []

    second : List Record
    second = event kind.Chunk 3 1 2 ∷ []

    closes : Closes 2 first
    closes m found = cc

    once : (number : ℕ) → number < 2 → times_drawn 0 (loop_logs 2) number ≡ 1
    once zero less = refl
    once (suc zero) less = refl
    once (suc (suc n)) less = absurd (omega arith)

    other : (k number : ℕ) → k < number → (k == number) ≡ false
    other k number less = grind arith

    no_other : (number : ℕ) → 2 ≤ number → times_drawn 0 (loop_logs 2) number ≡ 0
    no_other number more = rw (other 0 number (omega arith), other 1 number (omega arith)) refl

limit_is : (n : ℕ) (d : DrewSome (loop_logs n) 0) → slice_get (closed_loops (event kind.Chunk 3 0 2 ∷ event kind.Chunk 3 n n ∷ [])) 0 ≡ Some n → n ≡ d.limit
limit_is n d found = all_at (Closes d.limit) (loop_logs n) 0 (event kind.Chunk 3 0 2 ∷ event kind.Chunk 3 n n ∷ []) d.drew.closed refl n found

pub drawn_more : DrewSome (loop_logs 3) 0 → ⊥
drawn_more d = let limit : 3 ≡ d.limit = limit_is 3 d refl in different 0 1 (d.drew.once 2 (omega (arith, limit))) (omega arith)

pub drawn_fewer : DrewSome (loop_logs 1) 0 → ⊥
drawn_fewer d = let limit : 1 ≡ d.limit = limit_is 1 d refl in different 0 1 (sym (d.drew.no_other 1 (omega (arith, limit)))) (omega arith)

-- two lanes of an execution don't draw one chunk
pub drawn_twice : (program : Program) (address : ℕ → ℕ) (words : List ℕ) → IsExecution program same_chunk address words → ⊥
drawn_twice program address words e = let d = e.drawn [] step (1, omega arith, refl) 0 in by d.limit d.drew
  where
    step : Step
    step = record { region = 0; lane = 0; span = 2 }

    teams : List (List Record)
    teams = team_logs (logs_of same_chunk) [] step

    twice : times_drawn 0 teams 0 ≡ 2
    twice = refl

    by : (n : ℕ) → DrewEachOnce teams 0 n → ⊥
    by zero d = different 0 2 (sym (d.no_other 0 (omega arith)) ∙ twice) (omega arith)
    by (suc n) d = different 1 2 (sym (d.once 0 (omega arith)) ∙ twice) (omega arith)

-- ---- lanes

third_there : {X : Type 0} (x : X) (under next others after : List X) → under ++ ((x ∷ next) ++ others) ++ after ≡ [] → ⊥
third_there x [] next others after e = cc
third_there x (y ∷ under) next others after e = cc

abbrev span_at : List (List Step) → ℕ
span_at (root ∷ (step ∷ path) ∷ paths) = step.span
span_at _ = 0

pub lane_missing : IsListing (paths_of (main_task [] ∷ lane_task 0 first_log ∷ [])) → ⊥
lane_missing l = at l.root l.lists where
  at : (root : Task) → listing root ≡ [] ∷ team_path 0 ∷ [] → ⊥
  at Ends e = cc
  at (Forks first NoLane after) e = different 1 2 (ap span_at e) (omega arith)
  at (Forks first (Lane next others) after) e =
      let span : ℕ = 1 + lane_count (Lane next others) in
      third_there (lane_of [] 0 1 span) (under (lane_of [] 0 0 span) 0 first) (under (lane_of [] 0 1 span) 0 next) (lanes [] 0 2 span others) (under [] 1 after) (ap (λ (paths : List (List Step)). drop 2 paths) e)

-- ---- regions

abbrev IsOver : RegionWork → Type 0
IsOver r = PhasesEnd r.phases × ArePhasesJoined r.phases

abbrev region : Work → RegionWork
region second = record { span = 2; phases = Phase (Beside at_once (Beside second NoWork)) NoPhase }

pub ended_region : RestsBelow 3 (after_region at_once ∷ []) []
ended_region = RestsBelow.itself (after_region at_once ∷ []) (record { region = record { prefix = []; last = event kind.Region 3 0 2; parts = refl; forks = refl }; line_is = refl })
    (All-cons IsOver (region at_once) [] ((ends, (ends, tt)), ((tt, (tt, tt)), tt)) (All-nil IsOver))
  where
    ends : LastIsEnd (work_records at_once)
    ends = record { prefix = []; last = event kind.End 9 0 0; parts = refl; ends = refl }

have_ended : (works : List Work) → RestsBelow 3 works [] → HaveEnded (flat_map work_regions works)
have_ended works (RestsBelow.itself ws last all) = all

pub unended_region : RestsBelow 3 (after_region Rest ∷ []) [] → ⊥
unended_region r =
    let over = all_at IsOver (region Rest ∷ []) 0 (region Rest) (have_ended (after_region Rest ∷ []) r) refl in
    not_empty over.0.1.0.prefix [] over.0.1.0.last over.0.1.0.parts
