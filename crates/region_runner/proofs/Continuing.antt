-- A task goes on with one phase more.
use Rattle.std.proofs.Common.{◌≡◌, ap, sym, ◌∙◌, subst, ℕ, ◌+◌, ◌-◌, List, [], ◌∷◌, ◌++◌, length, ℤ, None, Result, Ok, Err, arith}
use Rattle.std.proofs.lemmas.List.{length-append}
use Rattle.log_format.specs.Limit.{record_limit}
use Rattle.history_model.proofs.Parts.{then_regions, then_rest, then_assoc}
use Rattle.log_format.specs.declared.record.Record.{Record}
use Rattle.kernel_syntax.specs.Program.{Program}
use Rattle.kernel_model.specs.declared.stop.StopWhy.TheVariants as reason
use Rattle.kernel_model.specs.State.{State, Outcome, and_then, after}
use Rattle.kernel_model.specs.Effect.{Effect, Finish, Returned, Halted, Makes}
use Rattle.kernel_model.proofs.Effects.{makes-then, makes-same}
use Rattle.history_model.specs.Work.{Work, RegionWork, work_regions, then_work}
use Rattle.execution_model.specs.Runs.{RunsRegions}
use Rattle.lane_runner.specs.declared.stop.Stop.TheVariants as stop
use Rattle.lane_runner.specs.declared.stop.Halt.{Halt}
use Rattle.lane_runner.specs.declared.stop.Halt.TheVariants as halt
use Rattle.lane_runner.specs.World.{WorldValue}
use Rattle.lane_runner.specs.Going.{Progress, HasDonePast, GainsRecords, HasReleased, Cause, AtLog, AtRegion, AtTasks, EndsBy, StopsBy, WorkHandsOn, stop_by, log_of, BeginsPart, effect_of, MadePast, Began, GoesPast}
use Rattle.lane_runner.specs.Drawing.{HasDrawn}
use Rattle.lane_runner.specs.Stopping.{HaveEnded}
use Rattle.lane_runner.specs.Handed.{HandedEntry, HandsOn, MaybeStop, AreFew, log_place}
use Rattle.lane_runner.proofs.Handing.{work_hands_then}
use Rattle.lane_runner.proofs.Drawing.{drew_then}
use Rattle.lane_runner.proofs.Working.{log_then, gains_then, runs_then}
use Rattle.lane_runner.proofs.Releasing.{released_then, ends_then}
use Rattle.lane_runner.proofs.Ending.{ended_then, stops_then}
use Rattle.lane_runner.proofs.Beginning.{begins_then, begins_same}
use Rattle.lane_runner.proofs.Following.{effect_then, after_is}
use Rattle.region_runner.proofs.JoinedWork.{work_of}
use Rattle.region_runner.specs.Ran.{in_one, TakesUp, HasLogged, TaskRan, TaskBegan, TaskGoes}

-- ---- works in one

pub one_more : (works : List Work) (work : Work) → in_one (works ++ work ∷ []) ≡ then_work (in_one works) work
one_more [] work = then_rest work
one_more (first ∷ works) work = ap (λ (m : Work). then_work first m) (one_more works work) ∙ sym (then_assoc first (in_one works) work)

-- ---- logs

logged_on : (bars : ℕ) (w : WorldValue) (old mid start new : Progress) (one work : Work) → HasLogged old mid one → TakesUp mid start → HasDonePast bars w start new work → HasLogged old new (then_work one work)
logged_on bars w old mid start new one work l up d = record {
  log =
      subst (λ (rs : List Record). GainsRecords old.buffer new.buffer rs) (sym (log_then one work))
      (gains_then old.buffer mid.buffer new.buffer (log_of one) (log_of work) l.log (subst (λ b. GainsRecords b new.buffer (log_of work)) up.buffer d.log));
  draws =
      subst (λ (rs : List Record). HasDrawn old.tally new.tally rs) (sym (log_then one work))
      (drew_then old.tally mid.tally new.tally (log_of one) (log_of work) l.draws (subst (λ t. HasDrawn t new.tally (log_of work)) up.tally d.draws));
  forked =
      let sum = ap (λ (rs : List RegionWork). length rs) (then_regions one work) ∙ length-append (work_regions one) (work_regions work) in
      let same : start.tally.forked ≡ mid.tally.forked = ap (λ t. t.forked) up.tally in
      omega (arith, sum, l.forked, d.forked, same);
}

-- ---- a part, and what follows it

module _ (w : WorldValue) (part next : State → Outcome (Unit {0})) (slots mid_slots slots' : List ℤ) (old mid start new : Progress) (works : List Work)
    (ran : TaskRan w part slots mid_slots old mid works (Returned tt)) (up : TakesUp mid start) (free : start.hand.view.held ≡ []) where
  left : record_limit - start.buffer.count ≡ record_limit - old.buffer.count - length (log_of (in_one works))
  left = let count = ran.logged.log.count in let same : start.buffer.count ≡ mid.buffer.count = ap (λ b. b.count) up.buffer in omega (arith, count, same)

  released : (work : Work) (own : List ℕ) → HasReleased start.hand.view.held work own → HasReleased [] (then_work (in_one works) work) own
  released work own r =
      released_then [] (in_one works) work own (subst (λ (l : List ℕ). HasReleased [] (in_one works) l) ran.closes ran.released)
      (subst (λ (h : List ℕ). HasReleased h work own) free r)

  path_is : start.buffer.path ≡ old.buffer.path
  path_is = ap (λ b. b.path) up.buffer ∙ ran.logged.log.path

  forked_is : start.tally.forked ≡ old.tally.forked + length (work_regions (in_one works))
  forked_is = ap (λ t. t.forked) up.tally ∙ ran.logged.forked

  place_is : log_place start.buffer ≡ log_place old.buffer
  place_is = ap (λ b. log_place b) up.buffer ∙ ran.logged.log.place

  few : AreFew old.done → AreFew start.done
  few less = subst (λ (es : List HandedEntry). AreFew es) (sym up.done) (ran.few less)

  handed : (stop : MaybeStop) (work : Work) → WorkHandsOn stop start new work → WorkHandsOn stop old new (then_work (in_one works) work)
  handed stop work hands =
      work_hands_then stop old start new (in_one works) work place_is path_is forked_is
      (subst (λ (es : List HandedEntry). HandsOn (log_place old.buffer) None old.buffer.path old.tally.forked (work_regions (in_one works)) old.done es) (sym up.done) ran.handed) hands

  abbrev both : State → Outcome (Unit {0})
  both s = after (part s) next

  pub ran_on : (bars : ℕ) (finish : Finish (Unit {0})) (m : MadePast bars w next mid_slots slots' start new finish) → TaskRan w both slots slots' old new (works ++ m.work ∷ []) finish
  ran_on bars finish m = record {
    forks = ran.forks ++ m.forks;
    own = m.own;
    logged = subst (λ (x : Work). HasLogged old new x) (sym (one_more works m.work)) (logged_on bars w old mid start new (in_one works) m.work ran.logged up m.done);
    released = subst (λ (x : Work). HasReleased [] x m.own) (sym (one_more works m.work)) (released m.work m.own m.released);
    closes = m.closes;
    ended = subst (λ (x : Work). HaveEnded (work_regions x)) (sym (one_more works m.work)) (ended_then (in_one works) m.work ran.ended m.ended);
    handed = subst (λ (x : Work). WorkHandsOn None old new x) (sym (one_more works m.work)) (handed None m.work m.handed);
    few = λ less. m.few (few less);
    unrefused = m.unrefused;
    makes =
        subst (λ (x : Work). Makes both slots (record_limit - old.buffer.count) (effect_of slots' x (ran.forks ++ m.forks)) finish) (sym (one_more works m.work))
        (makes-same (λ s. and_then (part s) (λ a t. next t)) both slots (record_limit - old.buffer.count) (effect_of slots' (then_work (in_one works) m.work) (ran.forks ++ m.forks)) finish (λ s. after_is (part s) next)
        (subst (λ (e : Effect). Makes (λ s. and_then (part s) (λ a t. next t)) slots (record_limit - old.buffer.count) e finish) (effect_then (in_one works) m.work mid_slots slots' ran.forks m.forks)
        (makes-then part (λ a t. next t) slots (record_limit - old.buffer.count) (effect_of mid_slots (in_one works) ran.forks) tt (effect_of slots' m.work m.forks) finish ran.makes
        (subst (λ (room : ℕ). Makes next mid_slots room (effect_of slots' m.work m.forks) finish) left m.makes))));
    regions =
        subst (λ (x : Work). (program : Program) → program.arrays ≡ w.arrays → RunsRegions program (ran.forks ++ m.forks) (work_regions x)) (sym (one_more works m.work))
        (λ program same. runs_then program ran.forks m.forks (in_one works) m.work (ran.regions program same) (m.regions program same));
  }

  pub began_on : (cause : Cause) (m : Began w next mid_slots start new cause) → TaskBegan w both slots old new (works ++ m.work ∷ []) cause
  began_on cause m = record {
    forks = ran.forks ++ m.forks;
    own = m.own;
    logged = subst (λ (x : Work). HasLogged old new x) (sym (one_more works m.work)) (logged_on 0 w old mid start new (in_one works) m.work ran.logged up m.done);
    released = subst (λ (x : Work). HasReleased [] x m.own) (sym (one_more works m.work)) (released m.work m.own m.released);
    ends =
        subst (λ (x : Work). EndsBy cause m.own (log_of x)) (sym (one_more works m.work))
        (subst (λ (rs : List Record). EndsBy cause m.own rs) (sym (log_then (in_one works) m.work)) (ends_then cause m.own (log_of (in_one works)) (log_of m.work) m.ends));
    stops =
        subst (λ (x : Work). StopsBy w.arrays old new cause (ran.forks ++ m.forks) (work_regions x)) (sym (one_more works m.work))
        (stops_then w.arrays old start new cause ran.forks m.forks (in_one works) m.work place_is path_is forked_is ran.ended few m.stops);
    handed = subst (λ (x : Work). WorkHandsOn (stop_by cause) old new x) (sym (one_more works m.work)) (handed (stop_by cause) m.work m.handed);
    begins =
        subst (λ (x : Work). BeginsPart both slots (record_limit - old.buffer.count) (log_of x) (ran.forks ++ m.forks)) (sym (one_more works m.work))
        (begins_same (λ s. and_then (part s) (λ a t. next t)) both slots (record_limit - old.buffer.count) (log_of (then_work (in_one works) m.work)) (ran.forks ++ m.forks) (λ s. after_is (part s) next)
        (subst (λ (rs : List Record). BeginsPart (λ s. and_then (part s) (λ a t. next t)) slots (record_limit - old.buffer.count) rs (ran.forks ++ m.forks)) (sym (log_then (in_one works) m.work))
        (begins_then part (λ a t. next t) slots (record_limit - old.buffer.count) (effect_of mid_slots (in_one works) ran.forks) tt (log_of m.work) m.forks ran.makes
        (subst (λ (room : ℕ). BeginsPart next mid_slots room (log_of m.work) m.forks) left m.begins))));
    regions =
        subst (λ (x : Work). (program : Program) → program.arrays ≡ w.arrays → RunsRegions program (ran.forks ++ m.forks) (work_regions x)) (sym (one_more works m.work))
        (λ program same. runs_then program ran.forks m.forks (in_one works) m.work (ran.regions program same) (m.regions program same));
  }

  -- by what the phase answers
  pub goes_on : (bars : ℕ) (r : Result (Unit {0}) Halt) (m : GoesPast bars w next mid_slots slots' start new r) → TaskGoes w both slots slots' old new (works ++ work_of w next mid_slots slots' start new free bars r m ∷ []) r
  goes_on bars (Ok u) m = ran_on bars (Returned tt) m
  goes_on bars (Err (halt.Own (stop.DivZero line))) m = ran_on 0 (Halted reason.DivZero line) m
  goes_on bars (Err (halt.Own (stop.Index line))) m = ran_on 0 (Halted reason.Index line) m
  goes_on bars (Err (halt.Own (stop.LogFull line))) m = ran_on 0 (Halted reason.LogFull line) m
  goes_on bars (Err (halt.Region path why)) m = began_on (AtRegion path why) m
  goes_on bars (Err (halt.Own (stop.Tasks line))) m = began_on (AtTasks line) m
  goes_on bars (Err (halt.Own (stop.Trouble trouble))) (m, refused) = (began_on AtLog m, refused)
