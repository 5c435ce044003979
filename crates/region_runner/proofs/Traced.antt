-- What the works of a lane have to do with the trace of its task.
use Rattle.std.proofs.Common.{◌≡◌, refl, ap, sym, ◌∙◌, subst, ℕ, ◌-◌, List, [], ◌∷◌, ◌++◌, ℤ, Result, Ok, Err, arith, inr, map}
use Rattle.std.specs.Prelude.{reverse}
use Rattle.std.specs.List.{flat_map}
use Rattle.std.proofs.lemmas.List.{append-nil, reverse-reverse}
use Rattle.std.proofs.lemmas.List.Elements.{All-nil, All-cons}
use Rattle.log_format.specs.Limit.{record_limit}
use Rattle.log_format.specs.declared.record.Record.{Record}
use Rattle.race_model.specs.History.{release}
use Rattle.kernel_syntax.specs.Program.{Program}
use Rattle.kernel_model.specs.declared.stop.StopWhy.{StopWhy}
use Rattle.kernel_model.specs.declared.stop.StopWhy.TheVariants as reason
use Rattle.kernel_model.specs.State.{State, Fork, Outcome, and_then, after, state_of, reads_of, chunks_of}
use Rattle.kernel_model.specs.Growth.{Grows}
use Rattle.kernel_model.specs.Trace.{Start, Stopped, task}
use Rattle.kernel_model.specs.Folder.{own_trace, IsTracedTo}
use Rattle.kernel_model.specs.Effect.{Finish, Returned, Halted, Makes, state_with}
use Rattle.kernel_model.proofs.Effects.{makes-halt, makes-same}
use Rattle.kernel_model.proofs.RunEffects.{parts, own_trace-is}
use Rattle.history_model.specs.Work.{Work, Rest, Put, RegionWork, Phases, NoPhase, Phase, TeamWork, NoWork, Beside, fork_record, work_records, work_regions, work_at, lane_works, then_work}
use Rattle.history_model.proofs.Parts.{then_records, then_regions}
use Rattle.execution_model.specs.Execution.{BeginsTrace}
use Rattle.execution_model.specs.Runs.{AreReleased, RunsTask, RunsRegions, put_records, works_log}
use Rattle.lane_runner.specs.declared.stop.Stop.TheVariants as stop
use Rattle.lane_runner.specs.declared.stop.Halt.{Halt}
use Rattle.lane_runner.specs.declared.stop.Halt.TheVariants as halt
use Rattle.lane_runner.specs.World.{WorldValue}
use Rattle.lane_runner.specs.Going.{Progress, HasReleased, Cause, AtLog, AtRegion, AtTasks, log_of, BeginsPart, effect_of}
use Rattle.lane_runner.proofs.Beginning.{begins_first, begins_same, begins_made}
use Rattle.lane_runner.proofs.Following.{after_is}
use Rattle.region_runner.specs.Ran.{in_one, TaskRan, TaskBegan, TaskGoes}

-- ---- works in one

pub one_records : (works : List Work) → work_records (in_one works) ≡ flat_map work_records works
one_records [] = refl
one_records (work ∷ works) = then_records work (in_one works) ∙ ap (λ (rs : List Record). work_records work ++ rs) (one_records works)

pub one_log : (works : List Work) → log_of (in_one works) ≡ works_log works
one_log works = ap (λ (rs : List Record). put_records rs) (one_records works)

pub one_regions : (works : List Work) → work_regions (in_one works) ≡ flat_map work_regions works
one_regions [] = refl
one_regions (work ∷ works) = then_regions work (in_one works) ∙ ap (λ (rs : List RegionWork). work_regions work ++ rs) (one_regions works)

-- ---- what was released

pub are_released : (work : Work) (own : List ℕ) → HasReleased [] work own → AreReleased (work_records work)
are_released work own r =
    inr
    (r.records
    ∙ ap (λ (l : List ℕ). log_of work ++ map release l)
    (sym (ap (λ (l : List ℕ). reverse l) r.held ∙ reverse-reverse (own ++ []) ∙ append-nil own)))

-- ---- traces

-- the records and forks are the first of the task's trace
pub record TracesFirst (program : Program) (start : Start) (records : List Record) (forks : List Fork) : Type 0 where
  pub begun : BeginsTrace program start records
  pub later : List Fork
  pub forks_are : (own_trace program start records).forks ≡ forks ++ later

module _ (program : Program) (start : Start) where
  pub begun_trace : (records : List Record) (forks : List Fork) → BeginsPart (parts program start) start.slots record_limit records forks → TracesFirst program start records forks
  unfolding task
  begun_trace records forks b =
      let from = b.begins [] [] [] [] in
      let plain : (task program start (reads_of records) (chunks_of records)) ≡ parts program start (state_with start.slots [] [] record_limit (reads_of records ++ []) (chunks_of records ++ [])) =
      ap (λ l. parts program start (state_with start.slots [] [] record_limit l (chunks_of records))) (sym (append-nil (reads_of records)))
      ∙ ap (λ l. parts program start (state_with start.slots [] [] record_limit (reads_of records ++ []) l)) (sym (append-nil (chunks_of records))) in
      record {
        begun = record { rest = from.more; begins = ap (λ (o : Outcome (Unit {0})). (state_of o).records) plain ∙ from.records_are };
        later = from.later;
        forks_are = ap (λ (o : Outcome (Unit {0})). (state_of o).forks) plain ∙ from.forks_are;
      }

  pub runs_first : (works : List Work) (own : List ℕ) (forks : List Fork) → TracesFirst program start (log_of (in_one works)) forks → HasReleased [] (in_one works) own
      → RunsRegions program forks (work_regions (in_one works)) → RunsTask program start works
  runs_first works own forks first r regions =
      let traced = subst (λ (rs : List Record). TracesFirst program start rs forks) (one_log works) first in
      RunsTask.runs start works forks traced.later traced.begun
      (subst (λ (rs : List Record). AreReleased rs) (one_records works) (are_released (in_one works) own r)) traced.forks_are
      (subst (λ (rs : List RegionWork). RunsRegions program forks rs) (one_regions works) regions)

  -- a task that stands at a part of its trace
  module _ (w : WorldValue) (same : program.arrays ≡ w.arrays) (part rest : State → Outcome (Unit {0})) (grows : (s : State) → Grows s (state_of (rest s)))
      (is : (s : State) → parts program start s ≡ after (part s) rest) (slots' : List ℤ) (old new : Progress) (none : old.buffer.count ≡ 0) (works : List Work) where
    room_is : record_limit - old.buffer.count ≡ record_limit
    room_is = omega (arith, none)

    whole_begins : (added : List Record) (forks : List Fork) → BeginsPart part start.slots (record_limit - old.buffer.count) added forks → BeginsPart (parts program start) start.slots record_limit added forks
    whole_begins added forks b =
        begins_same (λ s. and_then (part s) (λ a t. rest t)) (parts program start) start.slots record_limit added forks (λ s. is s ∙ after_is (part s) rest)
        (begins_first part (λ a t. rest t) start.slots record_limit added forks (λ a s. grows s) (subst (λ (room : ℕ). BeginsPart part start.slots room added forks) room_is b))

    runs_ran : (finish : Finish (Unit {0})) → TaskRan w part start.slots slots' old new works finish → RunsTask program start works
    runs_ran finish t =
        runs_first works t.own t.forks
        (begun_trace (log_of (in_one works)) t.forks
        (whole_begins (log_of (in_one works)) t.forks
        (begins_made part start.slots (record_limit - old.buffer.count) (effect_of slots' (in_one works) t.forks) finish t.makes)))
        t.released (t.regions program same)

    pub traces_begun : (cause : Cause) (t : TaskBegan w part start.slots old new works cause) → TracesFirst program start (log_of (in_one works)) t.forks
    traces_begun cause t = begun_trace (log_of (in_one works)) t.forks (whole_begins (log_of (in_one works)) t.forks t.begins)

    runs_begun : (cause : Cause) → TaskBegan w part start.slots old new works cause → RunsTask program start works
    runs_begun cause t = runs_first works t.own t.forks (traces_begun cause t) t.released (t.regions program same)

    pub runs_goes : (r : Result (Unit {0}) Halt) → TaskGoes w part start.slots slots' old new works r → RunsTask program start works
    runs_goes (Ok u) t = runs_ran (Returned tt) t
    runs_goes (Err (halt.Own (stop.DivZero line))) t = runs_ran (Halted reason.DivZero line) t
    runs_goes (Err (halt.Own (stop.Index line))) t = runs_ran (Halted reason.Index line) t
    runs_goes (Err (halt.Own (stop.LogFull line))) t = runs_ran (Halted reason.LogFull line) t
    runs_goes (Err (halt.Region path why)) t = runs_begun (AtRegion path why) t
    runs_goes (Err (halt.Own (stop.Tasks line))) t = runs_begun (AtTasks line) t
    runs_goes (Err (halt.Own (stop.Trouble trouble))) t = runs_begun AtLog t.0

    -- a task that stopped: its trace ends so
    pub stopped_trace : (why : StopWhy) (line : ℕ) → TaskRan w part start.slots slots' old new works (Halted why line) → IsTracedTo program start (works_log works) (Stopped why line)
    stopped_trace why line t =
        let halted = makes-same (λ s. and_then (part s) (λ a t. rest t)) (parts program start) start.slots record_limit (effect_of slots' (in_one works) t.forks) (Halted why line) (λ s. is s ∙ after_is (part s) rest)
        (makes-halt part (λ a t. rest t) start.slots record_limit (effect_of slots' (in_one works) t.forks) why line
        (subst (λ (room : ℕ). Makes part start.slots room (effect_of slots' (in_one works) t.forks) (Halted why line)) room_is t.makes)) in
        let trace = own_trace-is program start (effect_of slots' (in_one works) t.forks) (Halted why line) halted in
        subst (λ (rs : List Record). IsTracedTo program start rs (Stopped why line)) (one_log works)
        (record { records_are = ap (λ t. t.records) trace; ended = ap (λ t. t.end) trace })
