-- How a lane goes on: statements.
use Rattle.std.proofs.Common.{◌≡◌, ◌∙◌, refl, ap, sym, subst, ℕ, ◌-◌, List, ℤ, Option, Some, None, Result, Ok, Err}
use Rattle.std.specs.Prelude.{slice_set}
use Rattle.log_format.specs.Limit.{record_limit}
use Rattle.log_format.specs.Fitting.{fitted}
use Rattle.kernel_syntax.specs.Tree as tree
use Rattle.kernel_syntax.specs.Tree.{Term, Code}
use Rattle.log_format.specs.declared.record.Kind.{Kind}
use Rattle.kernel_model.specs.declared.change.Change.{Change}
use Rattle.kernel_model.specs.Changing.{amount, changing, kind_of}
use Rattle.kernel_model.proofs.Changing.{after_index, changed_grows, put_value, run-changing, valued_grows}
use Rattle.kernel_model.specs.declared.stop.StopWhy.TheVariants as reason
use Rattle.kernel_model.specs.State.{State, Outcome, and_then, after, assign, put, state_of}
use Rattle.kernel_model.specs.Growth.{Grows}
use Rattle.kernel_model.specs.Trace.{run, changed}
use Rattle.kernel_model.specs.Value.{Site, Element, element_at, access, value}
use Rattle.kernel_model.specs.Effect.{Finish, Returned, Halted}
use Rattle.kernel_model.proofs.Effects.{makes-stays}
use Rattle.kernel_model.proofs.Joining.{after-done}
use Rattle.kernel_model.proofs.RunEffects.{makes-Done, makes-assign}
use Rattle.kernel_model.proofs.Equations.{run-Set}
use Rattle.kernel_model.proofs.Growing.{grows-plain, run-grows, value-grows}
use Rattle.lane_runner.specs.declared.stop.Stop.TheVariants as stop
use Rattle.lane_runner.specs.declared.stop.Halt.{Halt}
use Rattle.lane_runner.specs.declared.stop.Halt.TheVariants as halt
use Rattle.history_model.specs.Work.{then_work}
use Rattle.lane_runner.specs.World.{WorldValue}
use Rattle.lane_runner.specs.Going.{Progress, CanGo, Cause, AtLog, AtRegion, AtTasks, effect_of, Made, Began, GoesPast, Goes}
use Rattle.lane_runner.proofs.Following.{goes_stop, past_then, goes_then, past_same, goes_same, same_made, then_made, after_is}
use Rattle.lane_runner.proofs.Values.{can_follow, made_still}

-- ---- parts that give no value

module _ (w : WorldValue) (part next : State → Outcome (Unit {0})) (slots : List ℤ) where
  pub after_stop : (slots' : List ℤ) (old new : Progress) (why : Halt) → ((s : State) → Grows s (state_of (next s))) → Goes w part slots slots' old new (Err why)
      → Goes w (λ s. after (part s) next) slots slots' old new (Err why)
  after_stop slots' old new why grows goes =
      goes_same w _ (λ (s : State). after (part s) next) slots slots' old new (λ s. after_is (part s) next) (Err why)
      (goes_stop w part (λ (a : Unit {0}) (s : State). next s) slots slots' old new why (λ a s. grows s) goes)

  pub after_past : (bars : ℕ) (mid_slots slots' : List ℤ) (old mid new : Progress) (r : Result (Unit {0}) Halt) → Made w part slots mid_slots old mid (Returned tt) → GoesPast bars w next mid_slots slots' mid new r
      → GoesPast bars w (λ s. after (part s) next) slots slots' old new r
  after_past bars mid_slots slots' old mid new r made goes =
      past_same w _ (λ (s : State). after (part s) next) slots slots' old new (λ s. after_is (part s) next) bars r
      (past_then w part (λ (a : Unit {0}) (s : State). next s) slots mid_slots slots' old mid new tt made bars r goes)

  -- what was done of both
  pub after_made : (mid_slots slots' : List ℤ) (old mid new : Progress) (one : Made w part slots mid_slots old mid (Returned tt)) (more : Made w next mid_slots slots' mid new (Returned tt))
      → (both : Made w (λ s. after (part s) next) slots slots' old new (Returned tt)) × (both.work ≡ then_work one.work more.work)
  after_made mid_slots slots' old mid new one more =
      let both = then_made w part (λ (a : Unit {0}) (s : State). next s) slots mid_slots slots' old mid new tt one (Returned tt) more in
      let same = same_made w _ (λ (s : State). after (part s) next) slots slots' old new (λ s. after_is (part s) next) (Returned tt) both.0 in
      (same.0, same.1 ∙ both.1)

  pub after_goes : (mid_slots slots' : List ℤ) (old mid new : Progress) (r : Result (Unit {0}) Halt) → Made w part slots mid_slots old mid (Returned tt) → Goes w next mid_slots slots' mid new r
      → Goes w (λ s. after (part s) next) slots slots' old new r
  after_goes mid_slots slots' old mid new r made goes = after_past 0 mid_slots slots' old mid new r made goes

-- a local is set, and then a part goes on
module _ (w : WorldValue) (part : State → Outcome (Unit {0})) (slot : ℕ) (v : ℤ) (slots slots' : List ℤ) (old new : Progress) where
  made_assigned : (finish : Finish (Unit {0})) → Made w part (slice_set slots slot v) slots' old new finish → Made w (λ s. part (assign slot v s)) slots slots' old new finish
  made_assigned finish m = record {
    work = m.work;
    forks = m.forks;
    own = m.own;
    done = m.done;
    released = m.released;
    closes = m.closes;
    ended = m.ended;
    handed = m.handed;
    few = m.few;
    unrefused = m.unrefused;
    makes = makes-assign part slot v slots (record_limit - old.buffer.count) (effect_of slots' m.work m.forks) finish m.makes;
    regions = m.regions;
  }

  begun_assigned : (cause : Cause) → Began w part (slice_set slots slot v) old new cause → Began w (λ s. part (assign slot v s)) slots old new cause
  begun_assigned cause m = record {
    work = m.work;
    forks = m.forks;
    own = m.own;
    done = m.done;
    released = m.released;
    ends = m.ends;
    stops = m.stops;
    handed = m.handed;
    begins = let b = m.begins in record { within = b.within; begins = λ records before reads chunks. b.begins records before reads chunks };
    regions = m.regions;
  }

  pub goes_assigned : (r : Result (Unit {0}) Halt) → Goes w part (slice_set slots slot v) slots' old new r → Goes w (λ s. part (assign slot v s)) slots slots' old new r
  goes_assigned (Ok u) m = made_assigned (Returned tt) m
  goes_assigned (Err (halt.Own (stop.DivZero line))) m = made_assigned (Halted reason.DivZero line) m
  goes_assigned (Err (halt.Own (stop.Index line))) m = made_assigned (Halted reason.Index line) m
  goes_assigned (Err (halt.Own (stop.LogFull line))) m = made_assigned (Halted reason.LogFull line) m
  goes_assigned (Err (halt.Region path why)) m = begun_assigned (AtRegion path why) m
  goes_assigned (Err (halt.Own (stop.Tasks line))) m = begun_assigned (AtTasks line) m
  goes_assigned (Err (halt.Own (stop.Trouble trouble))) (m, refused) = (begun_assigned AtLog m, refused)

-- no statement
pub made_done : (w : WorldValue) (at : Site) (slots : List ℤ) (p : Progress) → CanGo w p → Made w (run at tree.Done) slots slots p p (Returned tt)
made_done w at slots p can = made_still w (run at tree.Done) slots p (Returned tt) can (makes-Done at slots (record_limit - p.buffer.count))

-- ---- a variable is set

module _ (w : WorldValue) (at : Site) (slots : List ℤ) (slot : ℕ) (e : Term) (old new : Progress) where
  pub set_stops : (why : Halt) → Goes w (value at e) slots slots old new (Err why) → Goes w (run at (tree.Set slot e tree.Done)) slots slots old new (Err why)
  set_stops why goes =
      goes_same w _ (run at (tree.Set slot e tree.Done)) slots slots old new (run-Set at slot e tree.Done) (Err why)
      (goes_stop w (value at e) (λ (v : ℤ) (s : State). run at tree.Done (assign slot v s)) slots slots old new why
      (λ v s. grows-plain.chain s (assign slot v s) _ (grows-plain.assigns slot v s) (run-grows at tree.Done (assign slot v s))) goes)

  pub set_goes : (v : ℤ) → CanGo w old → Made w (value at e) slots slots old new (Returned v) → Made w (run at (tree.Set slot e tree.Done)) slots (slice_set slots slot v) old new (Returned tt)
  set_goes v can made =
      goes_same w _ (run at (tree.Set slot e tree.Done)) slots (slice_set slots slot v) old new (run-Set at slot e tree.Done) (Ok tt)
      (goes_then w (value at e) (λ (x : ℤ) (s : State). run at tree.Done (assign slot x s)) slots slots (slice_set slots slot v) old new new v made (Ok tt)
      (goes_assigned w (run at tree.Done) slot v slots (slice_set slots slot v) new new (Ok tt)
      (made_done w at (slice_set slots slot v) new (can_follow w (value at e) slots slots old new (Returned v) can made))))

-- ---- a store or an update

-- an element that isn't there, and one that is
pub changes_none : (w : WorldValue) (k : Kind) (found : Option Element) (v : ℤ) (line site : ℕ) (slots : List ℤ) (p : Progress) → CanGo w p → found ≡ None
    → Made w (changed k found v line site) slots slots p p (Halted reason.Index line)
changes_none w k found v line site slots p can is =
    made_still w (changed k found v line site) slots p (Halted reason.Index line) can
    (makes-stays (changed k found v line site) slots (record_limit - p.buffer.count) (Halted reason.Index line) (λ s same full. ap (λ o. changed k o v line site s) is))

pub changes_some : (w : WorldValue) (k : Kind) (found : Option Element) (e : Element) (v number : ℤ) (line site : ℕ) (slots : List ℤ) (old new : Progress) (r : Result (Unit {0}) Halt) → found ≡ Some e
    → number ≡ fitted v e.width → Goes w (put (access k e site line number)) slots slots old new r → Goes w (changed k found v line site) slots slots old new r
changes_some w k found e v number line site slots old new r is number_is goes =
    subst (λ (o : Option Element). Goes w (changed k o v line site) slots slots old new r) (sym is)
    (goes_same w (put (access k e site line (fitted v e.width))) (changed k (Some e) v line site) slots slots old new (λ s. refl) r
    (subst (λ (x : ℤ). Goes w (put (access k e site line x)) slots slots old new r) number_is goes))

module _ (w : WorldValue) (c : Change) (at : Site) (slots : List ℤ) (array : ℕ) (index e : Term) (line site : ℕ) where
  abbrev statement : Code
  statement = changing c array index e line site tree.Done

  abbrev of_index : ℤ → State → Outcome (Unit {0})
  of_index = after_index c at array index e line site tree.Done

  abbrev of_value : ℤ → ℤ → State → Outcome (Unit {0})
  of_value = put_value c at array index e line site tree.Done

  pub index_stops : (old new : Progress) (why : Halt) → Goes w (value at index) slots slots old new (Err why) → Goes w (run at statement) slots slots old new (Err why)
  index_stops old new why goes =
      goes_same w _ (run at statement) slots slots old new (run-changing c at array index e line site tree.Done) (Err why)
      (goes_stop w (value at index) of_index slots slots old new why (valued_grows c at array index e line site tree.Done) goes)

  module _ (i : ℤ) (old mid new : Progress) (made : Made w (value at index) slots slots old mid (Returned i)) where
    change_after : (r : Result (Unit {0}) Halt) → Goes w (of_index i) slots slots mid new r → Goes w (run at statement) slots slots old new r
    change_after r goes =
        goes_same w _ (run at statement) slots slots old new (run-changing c at array index e line site tree.Done) r
        (goes_then w (value at index) of_index slots slots slots old mid new i made r goes)

    pub value_stops : (why : Halt) → Goes w (value at e) slots slots mid new (Err why) → Goes w (run at statement) slots slots old new (Err why)
    value_stops why goes = change_after (Err why) (goes_stop w (value at e) (of_value i) slots slots mid new why (changed_grows c at array index e line site tree.Done i) goes)

    pub change_goes : (last : Progress) (v : ℤ) (r : Result (Unit {0}) Halt) → Made w (value at e) slots slots mid last (Returned v)
        → Goes w (changed (kind_of c) (element_at at.arrays array i) (amount c v) line site) slots slots last new r → Goes w (run at statement) slots slots old new r
    change_goes last v r made_value goes =
        change_after r
        (goes_then w (value at e) (of_value i) slots slots slots mid last new v made_value r
        (goes_same w (changed (kind_of c) (element_at at.arrays array i) (amount c v) line site) (of_value i v) slots slots last new (λ s. after-done at (changed (kind_of c) (element_at at.arrays array i) (amount c v) line site s)) r goes))
