-- What the lanes of a region answer, one after another: the first of the greatest urgency.
use Rattle.std.proofs.Common.{◌≡◌, ◌≢◌, ◌⊎◌, inl, inr, ap, sym, ◌∙◌, subst, ℕ, ◌+◌, ◌<◌, ◌≤◌, Bool, false, List, Option, Some, None, arith, below_more}
use Rattle.std.proofs.lemmas.Bool.{cases_lt}
use Rattle.sw_base.specs.declared.path.Step.{Step}
use Rattle.sw_base.specs.declared.trouble.Trouble.{Trouble}
use Rattle.sw_base.specs.declared.trouble.Trouble.TheVariants.{Memory}
use Rattle.lane_runner.specs.declared.stop.Halt.{Halt}
use Rattle.lane_runner.specs.declared.stop.Stop.{Stop}
use Rattle.lane_runner.specs.declared.stop.Stop.TheVariants as stop
use Rattle.lane_runner.specs.Handed.{MaybeStop}
use Rattle.region_runner.specs.declared.gathering.Verdict.{Verdict}
use Rattle.region_runner.specs.declared.gathering.Verdict.TheVariants.{Ended, Refused, Halted, Wanted}
use Rattle.region_runner.specs.Gathering.{ClosedValue, HasMemory, IsAnswer, IsGathered, WantsMemory, answer_for, closed_stop, lane_stop, urgency_of}

-- ---- one lane

module _ (c : ClosedValue) (kept : Bool) where
  no_want : (at : List Step) (why : Stop) → why ≢ stop.Trouble Memory → closed_stop c ≡ Some (at, why) → WantsMemory (closed_stop c) → ⊥
  no_want at why other is wants = other (subst (λ (s : MaybeStop). WantsMemory s) is wants)

  one_memory : (v : Verdict) → IsGathered c.path c.halt c.refused kept v → urgency_of v < 3 → HasMemory c kept
  one_memory Ended is less = (λ wants. subst (λ (s : MaybeStop). WantsMemory s) (ap (λ (h : Option Halt). lane_stop c.path h c.refused) is.0 ∙ ap (λ (t : Option Trouble). lane_stop c.path None t) is.1) wants, is.2)
  one_memory (Refused at why) is less = (no_want at why is.1 is.3, is.2)
  one_memory (Halted at why) is less = (no_want at why is.1 is.3, is.2)
  one_memory (Wanted at) is less = absurd (omega arith)

  one_going : (v : Verdict) → IsGathered c.path c.halt c.refused kept v → urgency_of v < 2 → c.halt ≡ None
  one_going Ended is less = is.0
  one_going (Refused at why) is less = is.0
  one_going (Halted at why) is less = absurd (omega arith)
  one_going (Wanted at) is less = absurd (omega arith)

  one_unrefused : (v : Verdict) → IsGathered c.path c.halt c.refused kept v → urgency_of v < 1 → c.refused ≡ None
  one_unrefused Ended is less = is.1
  one_unrefused (Refused at why) is less = absurd (omega arith)
  one_unrefused (Halted at why) is less = absurd (omega arith)
  one_unrefused (Wanted at) is less = absurd (omega arith)

-- ---- the first lanes

-- the first whose log refused what waited, where all went on
pub record FirstRefused (n : ℕ) (lanes : ℕ → ClosedValue) (kept : ℕ → Bool) (path : List Step) (why : Stop) : Type 0 where
  pub lane : ℕ
  pub within : lane < n
  pub stops : closed_stop (lanes lane) ≡ Some (path, why)
  pub memory : (j : ℕ) → j < n → HasMemory (lanes j) (kept j)
  pub going : (j : ℕ) → j < n → (lanes j).halt ≡ None
  pub before : (j : ℕ) → j < lane → (lanes j).refused ≡ None

-- the first that didn't go on
pub record FirstHalted (n : ℕ) (lanes : ℕ → ClosedValue) (kept : ℕ → Bool) (path : List Step) (why : Stop) : Type 0 where
  pub lane : ℕ
  pub within : lane < n
  pub stops : closed_stop (lanes lane) ≡ Some (path, why)
  pub memory : (j : ℕ) → j < n → HasMemory (lanes j) (kept j)
  pub halted : (lanes lane).halt ≢ None
  pub before : (j : ℕ) → j < lane → (lanes j).halt ≡ None

-- the first for which memory was wanting
pub record FirstWanted (n : ℕ) (lanes : ℕ → ClosedValue) (kept : ℕ → Bool) (path : List Step) : Type 0 where
  pub lane : ℕ
  pub within : lane < n
  pub stops : (closed_stop (lanes lane) ≡ Some (path, stop.Trouble Memory)) ⊎ ((path ≡ (lanes lane).path) × (kept lane ≡ false))
  pub before : (j : ℕ) → j < lane → HasMemory (lanes j) (kept j)

-- all ended
pub record AllEnded (n : ℕ) (lanes : ℕ → ClosedValue) (kept : ℕ → Bool) : Type 0 where
  pub memory : (j : ℕ) → j < n → HasMemory (lanes j) (kept j)
  pub going : (j : ℕ) → j < n → (lanes j).halt ≡ None
  pub unrefused : (j : ℕ) → j < n → (lanes j).refused ≡ None

-- so many lanes answer this
abbrev pub Answered : ℕ → (ℕ → ClosedValue) → (ℕ → Bool) → Verdict → Type 0
Answered n lanes kept Ended = AllEnded n lanes kept
Answered n lanes kept (Refused path why) = FirstRefused n lanes kept path why
Answered n lanes kept (Halted path why) = FirstHalted n lanes kept path why
Answered n lanes kept (Wanted path) = FirstWanted n lanes kept path

pub none_answered : (lanes : ℕ → ClosedValue) (kept : ℕ → Bool) → Answered 0 lanes kept Ended
none_answered lanes kept = record { memory = λ j less. absurd (omega arith); going = λ j less. absurd (omega arith); unrefused = λ j less. absurd (omega arith) }

module _ (n : ℕ) (lanes : ℕ → ClosedValue) (kept : ℕ → Bool) where
  memory_of : (v : Verdict) → Answered n lanes kept v → urgency_of v < 3 → (j : ℕ) → j < n → HasMemory (lanes j) (kept j)
  memory_of Ended a less = a.memory
  memory_of (Refused at why) a less = a.memory
  memory_of (Halted at why) a less = a.memory
  memory_of (Wanted at) a less = absurd (omega arith)

  going_of : (v : Verdict) → Answered n lanes kept v → urgency_of v < 2 → (j : ℕ) → j < n → (lanes j).halt ≡ None
  going_of Ended a less = a.going
  going_of (Refused at why) a less = a.going
  going_of (Halted at why) a less = absurd (omega arith)
  going_of (Wanted at) a less = absurd (omega arith)

  unrefused_of : (v : Verdict) → Answered n lanes kept v → urgency_of v < 1 → (j : ℕ) → j < n → (lanes j).refused ≡ None
  unrefused_of Ended a less = a.unrefused
  unrefused_of (Refused at why) a less = absurd (omega arith)
  unrefused_of (Halted at why) a less = absurd (omega arith)
  unrefused_of (Wanted at) a less = absurd (omega arith)

  -- one more, which goes before them
  pub goes_first : (v w : Verdict) → Answered n lanes kept v → IsGathered (lanes n).path (lanes n).halt (lanes n).refused (kept n) w → urgency_of v < urgency_of w → Answered (n + 1) lanes kept w
  goes_first v Ended a is less = absurd (omega arith)
  goes_first v (Refused at why) a is less = record {
    lane = n;
    within = omega arith;
    stops = is.3;
    memory = below_more (λ j. HasMemory (lanes j) (kept j)) n (memory_of v a (omega arith)) (one_memory (lanes n) (kept n) (Refused at why) is (omega arith));
    going = below_more (λ j. (lanes j).halt ≡ None) n (going_of v a (omega arith)) is.0;
    before = unrefused_of v a (omega arith);
  }
  goes_first v (Halted at why) a is less = record {
    lane = n;
    within = omega arith;
    stops = is.3;
    memory = below_more (λ j. HasMemory (lanes j) (kept j)) n (memory_of v a (omega arith)) (one_memory (lanes n) (kept n) (Halted at why) is (omega arith));
    halted = is.0;
    before = going_of v a (omega arith);
  }
  goes_first v (Wanted at) a is less = record { lane = n; within = omega arith; stops = is; before = memory_of v a (omega arith) }

  -- one more, which doesn't
  pub goes_after : (v w : Verdict) → Answered n lanes kept v → IsGathered (lanes n).path (lanes n).halt (lanes n).refused (kept n) w → urgency_of w ≤ urgency_of v → Answered (n + 1) lanes kept v
  goes_after Ended w a is most = record {
    memory = below_more (λ j. HasMemory (lanes j) (kept j)) n a.memory (one_memory (lanes n) (kept n) w is (omega arith));
    going = below_more (λ j. (lanes j).halt ≡ None) n a.going (one_going (lanes n) (kept n) w is (omega arith));
    unrefused = below_more (λ j. (lanes j).refused ≡ None) n a.unrefused (one_unrefused (lanes n) (kept n) w is (omega arith));
  }
  goes_after (Refused at why) w a is most = record {
    lane = a.lane;
    within = let less = a.within in omega arith;
    stops = a.stops;
    memory = below_more (λ j. HasMemory (lanes j) (kept j)) n a.memory (one_memory (lanes n) (kept n) w is (omega arith));
    going = below_more (λ j. (lanes j).halt ≡ None) n a.going (one_going (lanes n) (kept n) w is (omega arith));
    before = a.before;
  }
  goes_after (Halted at why) w a is most = record {
    lane = a.lane;
    within = let less = a.within in omega arith;
    stops = a.stops;
    memory = below_more (λ j. HasMemory (lanes j) (kept j)) n a.memory (one_memory (lanes n) (kept n) w is (omega arith));
    halted = a.halted;
    before = a.before;
  }
  goes_after (Wanted at) w a is most = record { lane = a.lane; within = let less = a.within in omega arith; stops = a.stops; before = a.before }

  -- what they answer is what their region does
  pub answers : (v : Verdict) → Answered n lanes kept v → IsAnswer n lanes kept (answer_for v)
  answers Ended a = IsAnswer.all_ended (λ j less. (a.going j less, a.unrefused j less, (a.memory j less).1))
  answers (Refused at why) a = IsAnswer.stopped a.lane at why a.within a.stops a.memory (λ j less. inr (a.going a.lane a.within, a.going j less, by j (cases_lt j a.lane)))
    where
      by : (j : ℕ) → (j < a.lane) ⊎ (a.lane ≤ j) → ((lanes j).refused ≡ None) ⊎ (a.lane ≤ j)
      by j (inl less) = inl (a.before j less)
      by j (inr from) = inr from
  answers (Halted at why) a = IsAnswer.stopped a.lane at why a.within a.stops a.memory (λ j less. inl (a.halted, by j (cases_lt j a.lane)))
    where
      by : (j : ℕ) → (j < a.lane) ⊎ (a.lane ≤ j) → ((lanes j).halt ≡ None) ⊎ (a.lane ≤ j)
      by j (inl less) = inl (a.before j less)
      by j (inr from) = inr from
  answers (Wanted at) a = IsAnswer.wanted a.lane at a.within a.stops a.before

  -- it depends on the logs of these lanes alone
  module _ (found : ℕ → Bool) (same : (j : ℕ) → j < n → kept j ≡ found j) where
    same_memory : (j : ℕ) → j < n → HasMemory (lanes j) (kept j) → HasMemory (lanes j) (found j)
    same_memory j less m = (m.0, sym (same j less) ∙ m.1)

    same_want : (at : List Step) (k : ℕ) → k < n → (closed_stop (lanes k) ≡ Some (at, stop.Trouble Memory)) ⊎ ((at ≡ (lanes k).path) × (kept k ≡ false))
        → (closed_stop (lanes k) ≡ Some (at, stop.Trouble Memory)) ⊎ ((at ≡ (lanes k).path) × (found k ≡ false))
    same_want at k less (inl stops) = inl stops
    same_want at k less (inr dropped) = inr (dropped.0, sym (same k less) ∙ dropped.1)

    pub answered_same : (v : Verdict) → Answered n lanes kept v → Answered n lanes found v
    answered_same Ended a = record { memory = λ j less. same_memory j less (a.memory j less); going = a.going; unrefused = a.unrefused }
    answered_same (Refused at why) a = record { lane = a.lane; within = a.within; stops = a.stops; memory = λ j less. same_memory j less (a.memory j less); going = a.going; before = a.before }
    answered_same (Halted at why) a = record { lane = a.lane; within = a.within; stops = a.stops; memory = λ j less. same_memory j less (a.memory j less); halted = a.halted; before = a.before }
    answered_same (Wanted at) a = record { lane = a.lane; within = a.within; stops = same_want at a.lane a.within a.stops; before = λ j less. same_memory j (let within = a.within in omega arith) (a.before j less) }
