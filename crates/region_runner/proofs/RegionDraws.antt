-- What the lanes of a region drew, once it rests.
use Rattle.std.proofs.Common.{◌≡◌, ap, sym, ◌∙◌, subst, ℕ, ◌<◌, List, [], ◌++◌, ℤ, Result, Ok, Err}
use Rattle.log_format.specs.declared.record.Record.{Record}
use Rattle.kernel_syntax.specs.Program.{Program}
use Rattle.kernel_model.specs.State.{State, Fork, Outcome}
use Rattle.kernel_model.specs.Trace.{Start}
use Rattle.kernel_model.specs.Chunking.{HasCounts}
use Rattle.history_model.specs.Work.{Work, Phases, lane_works}
use Rattle.execution_model.specs.Execution.{BeginsTrace, DrewSome}
use Rattle.execution_model.specs.Runs.{RunsTask, lane_begin, region_logs, works_log}
use Rattle.shared_words.specs.declared.share.Share.{Share}
use Rattle.shared_words.specs.Draws.{AreEachOnce, numbers}
use Rattle.shared_words.specs.Handles.{HandValue}
use Rattle.lane_runner.specs.declared.stop.Stop.TheVariants as stop
use Rattle.lane_runner.specs.declared.stop.Halt.{Halt}
use Rattle.lane_runner.specs.declared.stop.Halt.TheVariants as halt
use Rattle.lane_runner.specs.Drawing.{TellDraws}
use Rattle.lane_runner.specs.Going.{Progress, log_of}
use Rattle.lane_runner.specs.World.{WorldValue}
use Rattle.region_runner.specs.Drawing.{drawn_by}
use Rattle.region_runner.specs.Ran.{in_one, HasLogged, TaskGoes}
use Rattle.region_runner.proofs.TeamDraws.{lane_tells_counts, region_drew}
use Rattle.region_runner.proofs.Traced.{one_log}

pub begun_of : (program : Program) (start : Start) (works : List Work) → RunsTask program start works → BeginsTrace program start (works_log works)
begun_of program start works (RunsTask.runs s ws forks later begun released is regions) = begun

-- what the lane's log gained
pub goes_logged : (w : WorldValue) (part : State → Outcome (Unit {0})) (slots slots' : List ℤ) (old new : Progress) (works : List Work) (r : Result (Unit {0}) Halt) → TaskGoes w part slots slots' old new works r → HasLogged old new (in_one works)
goes_logged w part slots slots' old new works (Ok u) t = t.logged
goes_logged w part slots slots' old new works (Err (halt.Own (stop.DivZero line))) t = t.logged
goes_logged w part slots slots' old new works (Err (halt.Own (stop.Index line))) t = t.logged
goes_logged w part slots slots' old new works (Err (halt.Own (stop.LogFull line))) t = t.logged
goes_logged w part slots slots' old new works (Err (halt.Region path why)) t = t.logged
goes_logged w part slots slots' old new works (Err (halt.Own (stop.Tasks line))) t = t.logged
goes_logged w part slots slots' old new works (Err (halt.Own (stop.Trouble trouble))) (t, refused) = t.logged

-- its hand on the counters has the draws that its log tells
pub lane_drew : (old new : Progress) (works : List Work) → HasLogged old new (in_one works) → old.tally.next_loop ≡ 0 → old.tally.draws.view.drawn ≡ [] → TellDraws 0 (works_log works) new.tally.draws.view.drawn new.tally.next_loop
lane_drew old new works l first none =
    let drawn : new.tally.draws.view.drawn ≡ l.draws.drawn = ap (λ (h : HandValue Share). h.view.drawn) l.draws.draws ∙ ap (λ (ds : List (ℕ × ℕ)). ds ++ l.draws.drawn) none in
    subst (λ (ds : List (ℕ × ℕ)). TellDraws 0 (works_log works) ds new.tally.next_loop) (sym drawn)
    (subst (λ (rs : List Record). TellDraws 0 rs l.draws.drawn new.tally.next_loop) (one_log works)
    (subst (λ (n : ℕ). TellDraws n (log_of (in_one works)) l.draws.drawn new.tally.next_loop) first l.draws.tells))

-- each chunk of a region was drawn once
pub region_draws : (program : Program) (fork : Fork) (has : HasCounts fork.team fork.slots) (span : ℕ) (phases : Phases) (at : ℕ → Progress)
    → ((k : ℕ) → k < span → TellDraws 0 (works_log (lane_works k phases)) (at k).tally.draws.view.drawn (at k).tally.next_loop) → ((k : ℕ) → k < span → RunsTask program (lane_begin fork k) (lane_works k phases))
    → ((loop : ℕ) → AreEachOnce (numbers loop (drawn_by (λ k. (at k).tally.draws.view.drawn) 0 span))) → (loop : ℕ) → DrewSome (region_logs phases span) loop
region_draws program fork has span phases at tells ran once loop =
    region_drew has.counts phases span (λ k. (at k).tally.draws.view.drawn) (λ k. (at k).tally.next_loop) loop
    (λ k less. (tells k less, lane_tells_counts program fork k (works_log (lane_works k phases)) has (begun_of program (lane_begin fork k) (lane_works k phases) (ran k less)))) (once loop)
