-- A region whose lanes executed their phases, and whose logs were closed and gathered.
use Rattle.std.specs.Prelude.{map}
use Rattle.std.proofs.Common.{◌≡◌, refl, ap, sym, ◌∙◌, subst, ℕ, zero, suc, ◌+◌, ◌<◌, ◌≤◌, List, [], ◌∷◌, ◌++◌, length, ℤ, Option, Some, None, Ok, slice_index_or, arith}
use Rattle.sw_base.specs.declared.path.Step.{Step}
use Rattle.race_model.specs.Listing.{lane_of}
use Rattle.event_buffer.specs.Buffered.{Buffered}
use Rattle.kernel_syntax.specs.declared.syntax.Array.{Array}
use Rattle.kernel_syntax.specs.Tree.{TeamTree}
use Rattle.kernel_model.specs.Chunking.{HasCounts}
use Rattle.kernel_model.specs.State.{Fork, State}
use Rattle.kernel_model.specs.Trace.{run}
use Rattle.kernel_model.specs.Value.{Site}
use Rattle.kernel_model.specs.declared.phase.Item.{Item}
use Rattle.kernel_model.specs.Parts.{run_parts}
use Rattle.kernel_model.specs.Phases.{parts_in}
use Rattle.history_model.specs.Work.{lane_works}
use Rattle.history_model.specs.Joined.{PhasesEnd}
use Rattle.execution_model.specs.Execution.{DrewSome}
use Rattle.execution_model.specs.Runs.{lane_begin, region_logs, works_log}
use Rattle.shared_words.specs.declared.share.Share.{Share}
use Rattle.shared_words.specs.declared.view.View.{View}
use Rattle.shared_words.specs.Draws.{AreEachOnce, HasEachOnce, IsFirstAlone, numbers}
use Rattle.shared_words.specs.Handles.{HandValue, with_view}
use Rattle.lane_runner.specs.declared.stop.Halt.{Halt}
use Rattle.lane_runner.specs.Drawing.{Tally}
use Rattle.lane_runner.specs.Forking.{Answer, RanRegion, stop_in}
use Rattle.lane_runner.specs.Going.{site}
use Rattle.lane_runner.specs.Handed.{HandedEntry, HandsOn, log_place}
use Rattle.lane_runner.specs.Stopping.{GoesFurther}
use Rattle.lane_runner.specs.World.{WorldValue}
use Rattle.region_runner.specs.Begins.{LaneBegins}
use Rattle.region_runner.specs.Closing.{IsClosedAs}
use Rattle.region_runner.specs.Crew.{CrewValue, world_of}
use Rattle.region_runner.specs.Drawing.{drawn_by, regained_all}
use Rattle.region_runner.specs.Gathering.{ClosedValue, Gathered, LaneGave, draws_view}
use Rattle.lane_runner.proofs.Halting.{stopped_none}
use Rattle.lane_runner.specs.Lane.{LaneValue, answer_due, halt_in, progress, stop_of}
use Rattle.region_runner.specs.Opening.{AreLanes, ClosesAs, lent_hand, lent_to}
use Rattle.region_runner.specs.Ran.{TaskGoes, task_part}
use Rattle.region_runner.specs.Stands.{TeamClosed, TeamRan}
use Rattle.region_runner.specs.Stopping.{StopsTask}
use Rattle.region_runner.specs.Team.{DidPhases}
use Rattle.region_runner.proofs.GivenLogs.{lane_gave}
use Rattle.region_runner.proofs.RanRegions.{lane_goes, ran_draws, ran_lanes, ran_stops, ran_further}
use Rattle.region_runner.proofs.ReturnedHands.{all_returned, head_of}
use Rattle.region_runner.proofs.Settling.{settles}

-- what lanes drew, told of each
drawn_same : (f g : ℕ → List (ℕ × ℕ)) (first count : ℕ) → ((k : ℕ) → k < count → f (first + k) ≡ g (first + k)) → drawn_by f first count ≡ drawn_by g first count
drawn_same f g first zero same = refl
drawn_same f g first (suc count) same =
    ap (λ (ds : List (ℕ × ℕ)). ds ++ drawn_by f (suc first) count) (ap f (let e : first ≡ first + 0 = omega arith in e) ∙ same 0 (omega arith) ∙ ap g (let e : first + 0 ≡ first = omega arith in e))
    ∙ ap (λ (ds : List (ℕ × ℕ)). g first ++ ds)
    (drawn_same f g (suc first) count
    (λ k less. ap f (let e : suc first + k ≡ first + suc k = omega arith in e) ∙ same (suc k) (omega arith) ∙ ap g (let e : first + suc k ≡ suc first + k = omega arith in e)))

module _ (w : WorldValue) (crew : CrewValue) (team : TeamTree) (slots : List ℤ) (task : Buffered) (number : ℕ) (share : HandValue Share) (items : List (List Item)) (old new : HandValue View) (before after : List LaneValue)
    (lanes : List ClosedValue) (given handed : List HandedEntry) (r : Answer) (arrays : w.arrays ≡ crew.arrays) (span_is : crew.span ≡ team.span)
    (runs : (at : Site) (s : State) → run_parts at (parts_in items) s ≡ run at team.body s) (ran : TeamRan crew items team.end old new before after) (begin : AreLanes (log_place task) task.path number team.span slots share before)
    (closes : (k : ℕ) (d : LaneValue) (e : ClosedValue) → k < crew.span → ClosesAs (Ok (slice_index_or after k d)) (slice_index_or lanes k e)) (has : HasCounts team slots) (d : LaneValue) (e : ClosedValue)
    (gathered : Gathered team.span (λ k. slice_index_or lanes k e) given handed r)
    (once : (loop : ℕ) → AreEachOnce (numbers loop (drawn_by (λ k. (slice_index_or lanes k e).draws.view.drawn) 0 crew.span))) where
  abbrev fork : Fork
  fork = record { team = team; slots = slots }

  abbrev at : List Step
  at = task.path

  abbrev now : ℕ → LaneValue
  now k = slice_index_or after k d

  abbrev start : ℕ → LaneValue
  start k = slice_index_or before k d

  abbrev closed : ℕ → ClosedValue
  closed k = slice_index_or lanes k e

  within : (k : ℕ) → k < team.span → k < crew.span
  within k less = subst (λ (n : ℕ). k < n) (sym span_is) less

  begins : (k : ℕ) (x : LaneValue) → k < crew.span → LaneBegins (log_place task) (lane_of at number k team.span) slots (lent_hand share) (slice_index_or before k x)
  begins k x less = begin.each k x (subst (λ (n : ℕ). k < n) span_is less)

  halt_same : (k : ℕ) → k < crew.span → (closed k).halt ≡ halt_in (now k)
  halt_same k less = (closes k d e less).4

  start_path : (k : ℕ) (less : k < crew.span) → (now k).path ≡ lane_of at number k team.span
  start_path k less = (ran.stands.lanes k d less).path ∙ (begins k d less).path_is

  path_same : (k : ℕ) (less : k < crew.span) → (closed k).path ≡ lane_of at number k team.span
  path_same k less = (closes k d e less).0 ∙ start_path k less

  gave : (k : ℕ) → k < team.span → LaneGave (log_place task) (lane_works k ran.phases) (closed k)
  gave k less' =
      let less = within k less' in
      let b = begins k d less in
      let stands = ran.stands.lanes k d less in
      let c = closes k d e less in
      lane_gave crew k (task_part (site (world_of crew k)) ran.done ran.end) slots (now k).locals (progress (start k)) stands.last (lane_works k ran.phases) (log_place task) (closed k)
      (subst (λ (buffer : Buffered). IsClosedAs (closed k).own (closed k).refused (closed k).path buffer) stands.up.buffer
      (subst (λ (p : List Step). IsClosedAs (closed k).own (closed k).refused p (now k).buffer) (sym c.0) c.1))
      (c.2 ∙ stands.up.done) b.none_handed b.holds (ap (λ (t : Tally). t.forked) b.tally) (b.own ∙ sym (path_same k less)) b.place_is
      (subst (λ (h : Option Halt). TaskGoes (world_of crew k) (task_part (site (world_of crew k)) ran.done ran.end) slots (now k).locals (progress (start k)) stands.last (lane_works k ran.phases) (answer_due h)) (sym (halt_same k less))
      (lane_goes crew team slots items old new before after (log_place task) at number (λ k. lent_hand share) span_is runs ran begins (λ k less. refl) d k less))

  halts : (k : ℕ) (h : Halt) → k < team.span → (closed k).halt ≡ Some h → StopsTask w.arrays (closed k).path (stop_of (closed k).path h).0 (stop_of (closed k).path h).1 (lane_begin fork k) (lane_works k ran.phases)
  halts k h less' is =
      let less = within k less' in
      subst (λ (p : List Step). StopsTask w.arrays p (stop_of p h).0 (stop_of p h).1 (lane_begin fork k) (lane_works k ran.phases)) (sym (path_same k less))
      (subst (λ (xs : List Array). StopsTask xs (lane_of at number k team.span) (stop_of (lane_of at number k team.span) h).0 (stop_of (lane_of at number k team.span) h).1 (lane_begin fork k) (lane_works k ran.phases)) (sym arrays)
      (ran_stops crew team slots items old new before after (log_place task) at number (λ k. lent_hand share) span_is runs ran begins (λ k less. refl) d k less h (sym (halt_same k less) ∙ is)))

  further : (j k : ℕ) → j < team.span → k < team.span → (closed j).halt ≡ None → (h : Halt) → (closed k).halt ≡ Some h → GoesFurther (works_log (lane_works j ran.phases)) (works_log (lane_works k ran.phases))
  further j k less within_k none h is =
      ran_further crew team slots items old new before after (log_place task) at number (λ k. lent_hand share) span_is runs ran begins (λ k less. refl) d j k (within j less) (within k within_k) (stopped_none (now j) (sym (halt_same j (within j less)) ∙ none)) h
      (sym (halt_same k (within k within_k)) ∙ is)

  ended : ((k : ℕ) → k < team.span → ((closed k).halt ≡ None) × ((closed k).refused ≡ None)) → PhasesEnd ran.phases
  ended all =
      ran.ends
      (λ k x inside.
      let less : k < crew.span = let n = ran.stands.count in omega (arith, inside, n) in
      stopped_none (slice_index_or after k x) (sym (closes k x e less).4 ∙ (all k (subst (λ (n : ℕ). k < n) span_is less)).0))

  pub team_region : RanRegion w team slots task number old new given handed r
  team_region =
      let settled = settles (log_place task) w.arrays at number fork ran.phases closed gathered.kept (λ k less. path_same k (within k less)) gave halts further given r ended gathered.answer in
      let did : DidPhases w.arrays team.span old new ran.phases = subst (λ (n : ℕ). DidPhases w.arrays n old new ran.phases) span_is (subst (λ (xs : List Array). DidPhases xs crew.span old new ran.phases) (sym arrays) ran.stands.did) in
      record {
        phases = ran.phases;
        sound = did.sound;
        hand = did.hand;
        lanes = λ program same lane less.
            ran_lanes crew team slots items old new before after (log_place task) at number (λ k. lent_hand share) span_is runs ran begins (λ k less. refl) d program (same ∙ arrays) lane (within lane less);
        drawn = λ program same loop.
            subst (λ (n : ℕ). DrewSome (region_logs ran.phases n) loop) span_is
            (ran_draws crew team slots items old new before after (log_place task) at number (λ k. lent_hand share) span_is runs ran begins (λ k less. refl) d has drawn_once program (same ∙ arrays) loop);
        joined = did.joined;
        ends = settled.0;
        handed = subst (λ (es : List HandedEntry). HandsOn (log_place task) (stop_in r) at number (record { span = team.span; phases = ran.phases } ∷ []) given es) (sym gathered.grows) settled.1;
      }
    where
      drawn_once : (loop : ℕ) → AreEachOnce (numbers loop (drawn_by (λ k. (slice_index_or after k d).tally.draws.view.drawn) 0 crew.span))
      drawn_once loop = subst (λ (ds : List (ℕ × ℕ)). AreEachOnce (numbers loop ds))
          (drawn_same (λ k. (slice_index_or lanes k e).draws.view.drawn) (λ k. (slice_index_or after k d).tally.draws.view.drawn) 0 crew.span
          (λ k less. ap (λ (h : HandValue Share). h.view.drawn) (closes (0 + k) d e (omega (arith, less))).3)) (once loop)

-- the same of what was closed and gathered, with all hands on the counters joined
pub closed_region : (w : WorldValue) (crew : CrewValue) (team : TeamTree) (slots : List ℤ) (task : Buffered) (number : ℕ) (share mid last : HandValue Share) (items : List (List Item)) (old new : HandValue View) (before : List LaneValue) (lanes : List ClosedValue)
    (given handed : List HandedEntry) (r : Answer) → w.arrays ≡ crew.arrays → crew.span ≡ team.span → 1 ≤ team.span → ((at : Site) (s : State) → run_parts at (parts_in items) s ≡ run at team.body s) → TeamClosed crew items team.end old new before lanes
    → AreLanes (log_place task) task.path number team.span slots share before → HasCounts team slots → ((e : ClosedValue) → Gathered (length lanes) (λ k. slice_index_or lanes k e) given handed r)
    → mid ≡ lent_to team.span share → last ≡ with_view mid (regained_all (map draws_view lanes) mid.view) → (1 ≤ length lanes → IsFirstAlone last.view → HasEachOnce last.view) → RanRegion w team slots task number old new given handed r
closed_region w crew team slots task number share mid last items old new before lanes given handed r arrays span_is some runs closed begin has gathered lent joined once =
    let count : length lanes ≡ team.span = closed.count ∙ span_is in
    let d = head_of closed.after (let n = closed.ran.stands.count in omega (arith, n, span_is, some)) in
    let e = head_of lanes (omega (arith, count, some)) in
    team_region w crew team slots task number share items old new before closed.after lanes given handed r arrays span_is runs closed.ran begin closed.closes has d e
    (subst (λ (n : ℕ). Gathered n (λ k. slice_index_or lanes k e) given handed r) count (gathered e))
    (all_returned crew.span share mid last lanes e closed.count (lent ∙ ap (λ (n : ℕ). lent_to n share) (sym span_is)) joined (once (omega (arith, count, some))))
