-- Regions: the record of the fork, and what the lanes of the region did.
use Rattle.std.proofs.Common.{◌≡◌, inl, refl, ap, sym, ◌∙◌, subst, ℕ, ◌+◌, ◌-◌, ◌<◌, ◌≤◌, List, [], ◌∷◌, ◌++◌, length, ℤ, arith}
use Rattle.std.specs.Prelude.{reverse, Some, None, Ok, Err}
use Rattle.log_format.specs.Limit.{record_limit, task_limit}
use Rattle.sw_base.specs.declared.path.Step.{Step}
use Rattle.std.proofs.lemmas.List.{append-nil}
use Rattle.log_format.specs.declared.record.Record.{Record}
use Rattle.log_format.specs.declared.record.Kind.TheVariants as kind
use Rattle.kernel_syntax.specs.Program.{Program}
use Rattle.kernel_syntax.specs.Tree as tree
use Rattle.kernel_syntax.specs.Tree.{TeamTree, Code}
use Rattle.kernel_model.specs.State.{Fork, event}
use Rattle.kernel_model.specs.Value.{Site}
use Rattle.kernel_model.specs.Trace.{run}
use Rattle.kernel_model.specs.Effect.{Returned, Makes, adds}
use Rattle.kernel_model.proofs.RunEffects.{makes-Parallel, makes-Done}
use Rattle.race_model.specs.Race.{held_after}
use Rattle.step_history.specs.declared.item.Item.{Item}
use Rattle.shared_words.specs.declared.view.View.{View}
use Rattle.shared_words.specs.Handles.{HandValue, with_view}
use Rattle.history_model.specs.Work as work
use Rattle.history_model.specs.Work.{Work, Rest, RegionWork, work_regions}
use Rattle.history_model.specs.Did.{phase_splits, did_phases}
use Rattle.execution_model.specs.Runs.{RunsRegions}
use Rattle.event_buffer.specs.Buffered.{Buffered}
use Rattle.lane_runner.specs.Drawing.{Tally, HasDrawn}
use Rattle.lane_runner.proofs.Drawing.{drew_forked}
use Rattle.execution_model.specs.Elements.{element_word}
use Rattle.lane_runner.specs.World.{WorldValue}
use Rattle.lane_runner.specs.Going.{Progress, HasDone, HasReleased, GainsRecords, AtRegion, AtTasks, WorkHandsOn, AreFewBefore, log_of, worked, BeginsPart, effect_of, Made, Began, PutsRecord}
use Rattle.lane_runner.specs.Forking.{Answer, RanRegion, EndsAs, after_phases, stop_in}
use Rattle.lane_runner.specs.Handed.{HandedEntry, MaybeStop, HandsOn, AreFew, log_place}
use Rattle.lane_runner.specs.Stopping.{StopsRegion, HaveEnded}
use Rattle.lane_runner.specs.declared.stop.Stop.{Stop}
use Rattle.lane_runner.proofs.Working.{view_same}
use Rattle.lane_runner.proofs.Ending.{ended_none, ended_one}
use Rattle.lane_runner.proofs.Stepping.{is_put_one}
use Rattle.lane_runner.proofs.Beginning.{begins_made}

module _ (w : WorldValue) (at : Site) (team : TeamTree) (some : 1 ≤ team.line) (slots : List ℤ) (old a new : Progress) (r : Answer)
    (taken : PutsRecord (event kind.Region team.line 0 team.span) old.hand.view old a) (ran : RanRegion w team slots old.buffer old.tally.forked a.hand new.hand a.done new.done r)
    (free : old.hand.view.held ≡ []) (still : new.buffer ≡ a.buffer) (tally : new.tally ≡ record a.tally { forked = a.tally.forked + 1 }) where
  abbrev region_work : Work
  region_work = work.Fork team.line team.span ran.phases Rest

  abbrev region_code : Code
  region_code = tree.Parallel team.span team.line team.end team.body tree.Done

  abbrev this_fork : Fork
  this_fork = record { team = team; slots = slots }

  region_log : log_of region_work ≡ work.fork_record team.line team.span ∷ []
  region_log = rw (is_put_one team.line some) refl

  region_view : (word : ℕ → ℕ) (v : View) → after_phases word team.span ran.phases v ≡ worked word v region_work
  region_view word v =
      view_same v (v.splits + phase_splits ran.phases) (v.splits + (phase_splits ran.phases + 0))
      (v.items ++ did_phases word v.name v.splits team.span ran.phases) (v.items ++ (did_phases word v.name v.splits team.span ran.phases ++ []))
      (omega arith) (ap (λ (items : List Item). v.items ++ items) (sym (append-nil (did_phases word v.name v.splits team.span ran.phases))))

  counted : new.tally ≡ record old.tally { forked = old.tally.forked + 1 }
  counted = tally ∙ ap (λ (t : Tally). record t { forked = t.forked + 1 }) taken.tally

  region_done : HasDone w old new region_work
  region_done = record {
    hand =
        ran.hand
        ∙ ap (λ (h : HandValue View). with_view h (after_phases (element_word w.arrays) team.span ran.phases h.view)) taken.hand
        ∙ ap (λ (v : View). with_view old.hand v) (region_view (element_word w.arrays) old.hand.view);
    log = subst (λ (rs : List Record). GainsRecords old.buffer new.buffer rs) (sym region_log)
        (subst (λ (b : Buffered). GainsRecords old.buffer b (work.fork_record team.line team.span ∷ [])) (sym still) taken.log);
    draws = subst (λ (rs : List Record). HasDrawn old.tally new.tally rs) (sym region_log)
        (subst (λ (t : Tally). HasDrawn old.tally t (work.fork_record team.line team.span ∷ [])) (sym counted) (drew_forked old.tally (old.tally.forked + 1) (work.fork_record team.line team.span) refl));
    forked = ap (λ (t : Tally). t.forked) counted;
    told = let one = ap (λ (rs : List Record). length rs) region_log in omega (arith, one);
    sound = (ran.sound, tt);
    barriers = refl;
  }

  region_released : HasReleased old.hand.view.held region_work []
  region_released = record {
    records = sym region_log ∙ sym (append-nil (log_of region_work));
    held = ap (λ (rs : List Record). held_after (reverse old.hand.view.held) rs) region_log;
    apart = inl free;
  }

  region_makes : Makes (run at region_code) slots (record_limit - old.buffer.count) (effect_of slots region_work (this_fork ∷ [])) (Returned tt)
  region_makes =
      subst (λ (rs : List Record). Makes (run at region_code) slots (record_limit - old.buffer.count) (record { slots = slots; added = rs; forks = this_fork ∷ [] }) (Returned tt)) (sym region_log)
      (makes-Parallel at slots (record_limit - old.buffer.count) team tree.Done (adds slots []) (Returned tt) (let below = taken.below in omega arith)
      (makes-Done at slots (record_limit - old.buffer.count - 1)))

  region_runs : (program : Program) → program.arrays ≡ w.arrays → RunsRegions program (this_fork ∷ []) (work_regions region_work)
  region_runs program is = RunsRegions.region this_fork [] (record { span = team.span; phases = ran.phases }) [] refl (ran.lanes program is) (ran.drawn program is) RunsRegions.no_region

  abbrev this_region : RegionWork
  this_region = record { span = team.span; phases = ran.phases }

  region_hands : WorkHandsOn (stop_in r) old new region_work
  region_hands = subst (λ (es : List HandedEntry). HandsOn (log_place old.buffer) (stop_in r) old.buffer.path old.tally.forked (this_region ∷ []) es new.done) taken.done ran.handed

  hands_by : (x : Answer) → r ≡ x → WorkHandsOn (stop_in x) old new region_work
  hands_by x is = subst (λ (y : Answer). WorkHandsOn (stop_in y) old new region_work) is region_hands

  few_before : (stop : MaybeStop) → WorkHandsOn stop old new region_work → AreFewBefore stop old new (this_region ∷ [])
  few_before stop hands = record {
    before = [];
    last = this_region;
    regions_are = refl;
    earlier = old.done;
    few = λ less. less;
    handed = subst (λ (n : ℕ). HandsOn (log_place old.buffer) stop old.buffer.path n (this_region ∷ []) old.done new.done) (let e : old.tally.forked ≡ old.tally.forked + 0 = omega arith in e) hands;
  }

  region_ends : (u : Unit {0}) → r ≡ Ok u → HaveEnded (this_region ∷ [])
  region_ends u is = ended_one this_region (subst (λ (x : Answer). EndsAs w.arrays old.buffer.path old.tally.forked this_fork ran.phases x) is ran.ends) ran.joined

  region_begins : BeginsPart (run at region_code) slots (record_limit - old.buffer.count) (log_of region_work) (this_fork ∷ [])
  region_begins = begins_made (run at region_code) slots (record_limit - old.buffer.count) (effect_of slots region_work (this_fork ∷ [])) (Returned tt) region_makes

  pub region_made : (u : Unit {0}) → r ≡ Ok u → AreFew new.done → Made w (run at region_code) slots slots old new (Returned tt)
  region_made u is few = record {
    work = region_work;
    forks = this_fork ∷ [];
    own = [];
    done = region_done;
    released = region_released;
    closes = refl;
    ended = region_ends u is;
    handed = hands_by (Ok u) is;
    few = λ less. few;
    unrefused = ap (λ (b : Buffered). b.refused) still ∙ taken.unrefused;
    makes = region_makes;
    regions = region_runs;
  }

  pub region_began : (path : List Step) (why : Stop) → r ≡ Err (path, why) → Began w (run at region_code) slots old new (AtRegion path why)
  region_began path why is = record {
    work = region_work;
    forks = this_fork ∷ [];
    own = [];
    done = region_done;
    released = region_released;
    ends = (refl, record { prefix = []; last = work.fork_record team.line team.span; parts = region_log; forks = refl });
    stops = (
      record {
        earlier = [];
        fork = this_fork;
        forks_are = refl;
        before = [];
        region = this_region;
        regions_are = refl;
        span_is = refl;
        ended = ended_none;
        joined = ran.joined;
        stopped = at_number (subst (λ (x : Answer). EndsAs w.arrays old.buffer.path old.tally.forked this_fork ran.phases x) is ran.ends);
      },
      few_before (Some (path, why)) (hands_by (Err (path, why)) is),
    );
    handed = hands_by (Err (path, why)) is;
    begins = region_begins;
    regions = region_runs;
  }
    where
      at_number : StopsRegion w.arrays old.buffer.path old.tally.forked path why this_fork ran.phases → StopsRegion w.arrays old.buffer.path (old.tally.forked + 0) path why this_fork ran.phases
      at_number = subst (λ (n : ℕ). StopsRegion w.arrays old.buffer.path n path why this_fork ran.phases) (let e : old.tally.forked ≡ old.tally.forked + 0 = omega arith in e)

  -- the region ended, and now too many tasks are below its own
  pub region_crowded : (u : Unit {0}) → r ≡ Ok u → task_limit < length new.done → Began w (run at region_code) slots old new (AtTasks team.line)
  region_crowded u is many = record {
    work = region_work;
    forks = this_fork ∷ [];
    own = [];
    done = region_done;
    released = region_released;
    ends = (refl, record { region = record { prefix = []; last = work.fork_record team.line team.span; parts = region_log; forks = refl }; line_is = refl });
    stops = (region_ends u is, many, few_before None (hands_by (Ok u) is));
    handed = hands_by (Ok u) is;
    begins = region_begins;
    regions = region_runs;
  }
