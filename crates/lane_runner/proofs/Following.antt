-- How a lane goes on: parts one after another.
use Rattle.std.proofs.Common.{◌≡◌, refl, ap, sym, subst, ℕ, ◌-◌, List, ◌++◌, length, ℤ, None, Result, Ok, Err, arith}
use Rattle.log_format.specs.Limit.{record_limit}
use Rattle.log_format.specs.declared.record.Record.{Record}
use Rattle.kernel_model.specs.declared.stop.StopWhy.{StopWhy}
use Rattle.kernel_model.specs.declared.stop.StopWhy.TheVariants as reason
use Rattle.kernel_model.specs.State.{State, Fork, Outcome, and_then, after, state_of}
use Rattle.kernel_model.specs.Growth.{Grows}
use Rattle.kernel_model.specs.Effect.{Effect, Finish, Returned, Halted, Makes, then_effect}
use Rattle.kernel_model.proofs.Effects.{makes-then, makes-halt, makes-same}
use Rattle.history_model.specs.Work.{Work, then_work}
use Rattle.lane_runner.specs.declared.stop.Stop.TheVariants as stop
use Rattle.lane_runner.specs.declared.stop.Halt.{Halt}
use Rattle.lane_runner.specs.declared.stop.Halt.TheVariants as halt
use Rattle.lane_runner.specs.Handed.{MaybeStop}
use Rattle.lane_runner.specs.World.{WorldValue}
use Rattle.lane_runner.specs.Going.{Progress, HasDonePast, HasReleased, Cause, AtLog, AtRegion, AtTasks, stop_by, WorkHandsOn, EndsBy, log_of, BeginsPart, effect_of, MadePast, Made, Began, GoesPast, Goes}
use Rattle.shared_words.specs.declared.view.View.{View}
use Rattle.shared_words.specs.Handles.{HandValue}
use Rattle.lane_runner.proofs.Working.{log_then, done_then, runs_then}
use Rattle.lane_runner.proofs.Releasing.{released_then, ends_then}
use Rattle.lane_runner.proofs.Ending.{ended_then, stops_then}
use Rattle.lane_runner.proofs.Handing.{work_hands_then}
use Rattle.lane_runner.proofs.Beginning.{begins_first, begins_then, begins_same}

pub effect_then : (one two : Work) (slots slots' : List ℤ) (forks later : List Fork) → then_effect (effect_of slots one forks) (effect_of slots' two later) ≡ effect_of slots' (then_work one two) (forks ++ later)
effect_then one two slots slots' forks later = λ i. record { slots = slots'; added = sym (log_then one two) i; forks = forks ++ later }

module _ (w : WorldValue) {A B : Type 0} (part : State → Outcome A) (next : A → State → Outcome B) (slots slots' : List ℤ) (old new : Progress) where
  -- a part that stops, whatever follows it
  halts : (why : StopWhy) (line : ℕ) → Made w part slots slots' old new (Halted why line) → Made w (λ s. and_then (part s) next) slots slots' old new (Halted why line)
  halts why line m = record {
    work = m.work;
    forks = m.forks;
    own = m.own;
    done = m.done;
    released = m.released;
    closes = tt;
    ended = m.ended;
    handed = m.handed;
    few = m.few;
    unrefused = m.unrefused;
    makes = makes-halt part next slots (record_limit - old.buffer.count) (effect_of slots' m.work m.forks) why line m.makes;
    regions = m.regions;
  }

  begins_stop : (cause : Cause) → ((a : A) (s : State) → Grows s (state_of (next a s))) → Began w part slots old new cause → Began w (λ s. and_then (part s) next) slots old new cause
  begins_stop cause grows m = record {
    work = m.work;
    forks = m.forks;
    own = m.own;
    done = m.done;
    released = m.released;
    ends = m.ends;
    stops = m.stops;
    handed = m.handed;
    begins = begins_first part next slots (record_limit - old.buffer.count) (log_of m.work) m.forks grows m.begins;
    regions = m.regions;
  }

  pub goes_stop : (why : Halt) → ((a : A) (s : State) → Grows s (state_of (next a s))) → Goes w part slots slots' old new (Err why) → Goes w (λ s. and_then (part s) next) slots slots' old new (Err why)
  goes_stop (halt.Own (stop.DivZero line)) grows m = halts reason.DivZero line m
  goes_stop (halt.Own (stop.Index line)) grows m = halts reason.Index line m
  goes_stop (halt.Own (stop.LogFull line)) grows m = halts reason.LogFull line m
  goes_stop (halt.Region path why) grows m = begins_stop (AtRegion path why) grows m
  goes_stop (halt.Own (stop.Tasks line)) grows m = begins_stop (AtTasks line) grows m
  goes_stop (halt.Own (stop.Trouble trouble)) grows (m, refused) = (begins_stop AtLog grows m, refused)

-- a part, and what follows it
module _ (w : WorldValue) {A B : Type 0} (part : State → Outcome A) (next : A → State → Outcome B) (slots mid_slots slots' : List ℤ) (old mid new : Progress) (a : A)
    (one : Made w part slots mid_slots old mid (Returned a)) where
  left : record_limit - mid.buffer.count ≡ record_limit - old.buffer.count - length (log_of one.work)
  left = let count = one.done.log.count in omega arith

  done : {bars : ℕ} (work : Work) → HasDonePast bars w mid new work → HasDonePast bars w old new (then_work one.work work)
  done work d = done_then w old mid new one.work work one.done d

  held_is : mid.hand.view.held ≡ old.hand.view.held
  held_is = ap (λ (h : HandValue View). h.view.held) one.done.hand

  released : (work : Work) (own : List ℕ) → HasReleased mid.hand.view.held work own → HasReleased old.hand.view.held (then_work one.work work) own
  released work own r =
      released_then old.hand.view.held one.work work own (subst (λ (l : List ℕ). HasReleased old.hand.view.held one.work l) one.closes one.released)
      (subst (λ (h : List ℕ). HasReleased h work own) held_is r)

  handed : (stop : MaybeStop) (work : Work) → WorkHandsOn stop mid new work → WorkHandsOn stop old new (then_work one.work work)
  handed stop work hands = work_hands_then stop old mid new one.work work one.done.log.place one.done.log.path one.done.forked one.handed hands

  pub then_made : {bars : ℕ} (finish : Finish B) (m : MadePast bars w (next a) mid_slots slots' mid new finish)
      → (both : MadePast bars w (λ s. and_then (part s) next) slots slots' old new finish) × (both.work ≡ then_work one.work m.work)
  then_made finish m = (
    record {
      work = then_work one.work m.work;
      forks = one.forks ++ m.forks;
      own = m.own;
      done = done m.work m.done;
      released = released m.work m.own m.released;
      closes = m.closes;
      ended = ended_then one.work m.work one.ended m.ended;
      handed = handed None m.work m.handed;
      few = λ less. m.few (one.few less);
      unrefused = m.unrefused;
      makes =
          subst (λ (e : Effect). Makes (λ s. and_then (part s) next) slots (record_limit - old.buffer.count) e finish) (effect_then one.work m.work mid_slots slots' one.forks m.forks)
          (makes-then part next slots (record_limit - old.buffer.count) (effect_of mid_slots one.work one.forks) a (effect_of slots' m.work m.forks) finish one.makes
          (subst (λ (room : ℕ). Makes (next a) mid_slots room (effect_of slots' m.work m.forks) finish) left m.makes));
      regions = λ program is. runs_then program one.forks m.forks one.work m.work (one.regions program is) (m.regions program is);
    },
    refl,
  )

  follows : {bars : ℕ} (finish : Finish B) → MadePast bars w (next a) mid_slots slots' mid new finish → MadePast bars w (λ s. and_then (part s) next) slots slots' old new finish
  follows finish m = (then_made finish m).0

  begins_follow : (cause : Cause) → Began w (next a) mid_slots mid new cause → Began w (λ s. and_then (part s) next) slots old new cause
  begins_follow cause m = record {
    work = then_work one.work m.work;
    forks = one.forks ++ m.forks;
    own = m.own;
    done = done m.work m.done;
    released = released m.work m.own m.released;
    ends = subst (λ (rs : List Record). EndsBy cause m.own rs) (sym (log_then one.work m.work)) (ends_then cause m.own (log_of one.work) (log_of m.work) m.ends);
    stops = stops_then w.arrays old mid new cause one.forks m.forks one.work m.work one.done.log.place one.done.log.path one.done.forked one.ended one.few m.stops;
    handed = handed (stop_by cause) m.work m.handed;
    begins =
        subst (λ (rs : List Record). BeginsPart (λ s. and_then (part s) next) slots (record_limit - old.buffer.count) rs (one.forks ++ m.forks)) (sym (log_then one.work m.work))
        (begins_then part next slots (record_limit - old.buffer.count) (effect_of mid_slots one.work one.forks) a (log_of m.work) m.forks one.makes
        (subst (λ (room : ℕ). BeginsPart (next a) mid_slots room (log_of m.work) m.forks) left m.begins));
    regions = λ program is. runs_then program one.forks m.forks one.work m.work (one.regions program is) (m.regions program is);
  }

  pub past_then : (bars : ℕ) (r : Result B Halt) → GoesPast bars w (next a) mid_slots slots' mid new r → GoesPast bars w (λ s. and_then (part s) next) slots slots' old new r
  past_then bars (Ok b) m = follows (Returned b) m
  past_then bars (Err (halt.Own (stop.DivZero line))) m = follows (Halted reason.DivZero line) m
  past_then bars (Err (halt.Own (stop.Index line))) m = follows (Halted reason.Index line) m
  past_then bars (Err (halt.Own (stop.LogFull line))) m = follows (Halted reason.LogFull line) m
  past_then bars (Err (halt.Region path why)) m = begins_follow (AtRegion path why) m
  past_then bars (Err (halt.Own (stop.Tasks line))) m = begins_follow (AtTasks line) m
  past_then bars (Err (halt.Own (stop.Trouble trouble))) (m, refused) = (begins_follow AtLog m, refused)

  pub goes_then : (r : Result B Halt) → Goes w (next a) mid_slots slots' mid new r → Goes w (λ s. and_then (part s) next) slots slots' old new r
  goes_then r goes = past_then 0 r goes

-- the same part, told otherwise
module _ (w : WorldValue) {A : Type 0} (part other : State → Outcome A) (slots slots' : List ℤ) (old new : Progress) (same : (s : State) → other s ≡ part s) where
  pub same_made : {bars : ℕ} (finish : Finish A) (m : MadePast bars w part slots slots' old new finish) → (x : MadePast bars w other slots slots' old new finish) × (x.work ≡ m.work)
  same_made finish m = (
    record {
      work = m.work;
      forks = m.forks;
      own = m.own;
      done = m.done;
      released = m.released;
      closes = m.closes;
      ended = m.ended;
      handed = m.handed;
      few = m.few;
      unrefused = m.unrefused;
      makes = makes-same part other slots (record_limit - old.buffer.count) (effect_of slots' m.work m.forks) finish same m.makes;
      regions = m.regions;
    },
    refl,
  )

  made_same : {bars : ℕ} (finish : Finish A) → MadePast bars w part slots slots' old new finish → MadePast bars w other slots slots' old new finish
  made_same finish m = (same_made finish m).0

  begun_same : (cause : Cause) → Began w part slots old new cause → Began w other slots old new cause
  begun_same cause m = record {
    work = m.work;
    forks = m.forks;
    own = m.own;
    done = m.done;
    released = m.released;
    ends = m.ends;
    stops = m.stops;
    handed = m.handed;
    begins = begins_same part other slots (record_limit - old.buffer.count) (log_of m.work) m.forks same m.begins;
    regions = m.regions;
  }

  pub past_same : (bars : ℕ) (r : Result A Halt) → GoesPast bars w part slots slots' old new r → GoesPast bars w other slots slots' old new r
  past_same bars (Ok v) m = made_same (Returned v) m
  past_same bars (Err (halt.Own (stop.DivZero line))) m = made_same (Halted reason.DivZero line) m
  past_same bars (Err (halt.Own (stop.Index line))) m = made_same (Halted reason.Index line) m
  past_same bars (Err (halt.Own (stop.LogFull line))) m = made_same (Halted reason.LogFull line) m
  past_same bars (Err (halt.Region path why)) m = begun_same (AtRegion path why) m
  past_same bars (Err (halt.Own (stop.Tasks line))) m = begun_same (AtTasks line) m
  past_same bars (Err (halt.Own (stop.Trouble trouble))) (m, refused) = (begun_same AtLog m, refused)

  pub goes_same : (r : Result A Halt) → Goes w part slots slots' old new r → Goes w other slots slots' old new r
  goes_same r goes = past_same 0 r goes

-- what follows where a part gives no value
pub after_is : (m : Outcome (Unit {0})) (f : State → Outcome (Unit {0})) → after m f ≡ and_then m (λ a t. f t)
after_is (Outcome.Gives a s) f = refl
after_is (Outcome.Stops why line s) f = refl
after_is (Outcome.Wants s) f = refl
