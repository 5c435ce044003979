-- What the lanes of a region did, once it rests.
use Rattle.std.proofs.Common.{◌≡◌, inl, inr, refl, ap, sym, ◌∙◌, subst, ℕ, ◌<◌, List, [], map, ℤ, Option, Some, None, slice_index_or, arith}
use Rattle.sw_base.specs.declared.path.Step.{Step}
use Rattle.race_model.specs.Listing.{lane_of}
use Rattle.race_model.specs.Trace.{barrier_count}
use Rattle.kernel_syntax.specs.Program.{Program}
use Rattle.kernel_syntax.specs.Tree.{TeamTree}
use Rattle.kernel_model.specs.Chunking.{HasCounts}
use Rattle.kernel_model.specs.State.{Fork, State}
use Rattle.kernel_model.specs.Trace.{run}
use Rattle.kernel_model.specs.Value.{Site}
use Rattle.kernel_model.specs.declared.phase.Item.{Item}
use Rattle.kernel_model.specs.Parts.{bar_count, run_parts}
use Rattle.kernel_model.specs.Phases.{part_of, parts_in}
use Rattle.history_model.specs.Work.{lane_works}
use Rattle.execution_model.specs.Execution.{DrewSome}
use Rattle.execution_model.specs.Runs.{RunsTask, lane_begin, region_logs, works_log}
use Rattle.shared_words.specs.declared.share.Share.{Share}
use Rattle.shared_words.specs.declared.view.View.{View}
use Rattle.shared_words.specs.Draws.{AreEachOnce, numbers}
use Rattle.shared_words.specs.Handles.{HandValue}
use Rattle.lane_runner.specs.declared.stop.Halt.{Halt}
use Rattle.lane_runner.specs.Drawing.{Tally, TellDraws, after_draws}
use Rattle.lane_runner.specs.Going.{site}
use Rattle.lane_runner.specs.Handed.{LogPlace}
use Rattle.lane_runner.specs.Stopping.{GoesFurther}
use Rattle.region_runner.specs.Begins.{LaneBegins}
use Rattle.region_runner.specs.Crew.{CrewValue, world_of}
use Rattle.region_runner.specs.Drawing.{drawn_by}
use Rattle.lane_runner.specs.Lane.{LaneValue, answer_due, halt_in, progress, stop_of}
use Rattle.region_runner.specs.Ran.{TaskGoes, task_part}
use Rattle.region_runner.specs.Stands.{IsBehind, LaneStands, TeamRan, records_put}
use Rattle.region_runner.specs.Stopping.{StopsTask}
use Rattle.region_runner.proofs.PutLogs.{IsPut, goes_put}
use Rattle.region_runner.proofs.RegionDraws.{goes_logged, lane_drew, region_draws}
use Rattle.region_runner.proofs.RegionLanes.{BeginsLane, lane_ran, task_begins}
use Rattle.region_runner.proofs.Standing.{bars_after}
use Rattle.region_runner.proofs.TaskStops.{stops_task}
use Rattle.region_runner.proofs.TeamLoop.{snoc_same}

module _ (crew : CrewValue) (team : TeamTree) (slots : List ℤ) (items : List (List Item)) (old new : HandValue View) (before after : List LaneValue) (place : LogPlace) (at : List Step) (number : ℕ)
    (draws : ℕ → HandValue Share) (span_is : crew.span ≡ team.span) (runs : (site : Site) (s : State) → run_parts site (parts_in items) s ≡ run site team.body s) (ran : TeamRan crew items team.end old new before after)
    (begins : (k : ℕ) (d : LaneValue) → k < crew.span → LaneBegins place (lane_of at number k team.span) slots (draws k) (slice_index_or before k d)) (unused : (k : ℕ) → k < crew.span → (draws k).view.drawn ≡ []) (d : LaneValue) where
  abbrev fork : Fork
  fork = record { team = team; slots = slots }

  abbrev start : ℕ → LaneValue
  start k = slice_index_or before k d

  abbrev now : ℕ → LaneValue
  now k = slice_index_or after k d

  first : (k : ℕ) → BeginsLane fork k (world_of crew k) (task_part (site (world_of crew k)) ran.done ran.end)
  first k = task_begins fork k (world_of crew k) refl span_is items runs ran.done ran.left ran.is ran.end ran.end_is

  pub lane_goes : (k : ℕ) (less : k < crew.span)
      → TaskGoes (world_of crew k) (task_part (site (world_of crew k)) ran.done ran.end) slots (now k).locals (progress (start k)) (ran.stands.lanes k d less).last (lane_works k ran.phases) (answer_due (halt_in (now k)))
  lane_goes k less =
      subst (λ (ss : List ℤ). TaskGoes (world_of crew k) (task_part (site (world_of crew k)) ran.done ran.end) ss (now k).locals (progress (start k)) (ran.stands.lanes k d less).last (lane_works k ran.phases) (answer_due (halt_in (now k))))
      (begins k d less).locals_are (ran.stands.lanes k d less).goes

  pub ran_lanes : (program : Program) → program.arrays ≡ crew.arrays → (k : ℕ) → k < crew.span → RunsTask program (lane_begin fork k) (lane_works k ran.phases)
  ran_lanes program arrays k less =
      lane_ran program fork k (world_of crew k) arrays (task_part (site (world_of crew k)) ran.done ran.end) (first k) (now k).locals (progress (start k)) (ran.stands.lanes k d less).last (begins k d less).none_put ran.phases
      (answer_due (halt_in (now k))) (lane_goes k less)

  drew : (k : ℕ) → k < crew.span → TellDraws 0 (works_log (lane_works k ran.phases)) (now k).tally.draws.view.drawn (now k).tally.next_loop
  drew k less =
      let b = begins k d less in
      let stands = ran.stands.lanes k d less in
      subst (λ (t : Tally). TellDraws 0 (works_log (lane_works k ran.phases)) t.draws.view.drawn t.next_loop) (sym stands.up.tally)
      (lane_drew (progress (start k)) stands.last (lane_works k ran.phases)
      (goes_logged (world_of crew k) (task_part (site (world_of crew k)) ran.done ran.end) slots (now k).locals (progress (start k)) stands.last (lane_works k ran.phases) (answer_due (halt_in (now k))) (lane_goes k less))
      (ap (λ (t : Tally). t.next_loop) b.tally) (ap (λ (t : Tally). t.draws.view.drawn) b.tally ∙ unused k less))

  -- each lane's hand on the counters is the one that it got
  pub same_hand : (k : ℕ) → k < crew.span → ((now k).tally.draws.table ≡ (draws k).table) × ((now k).tally.draws.there ≡ (draws k).there) × ((now k).tally.draws.view.first ≡ (draws k).view.first)
  same_hand k less =
      let stands = ran.stands.lanes k d less in
      let logged = goes_logged (world_of crew k) (task_part (site (world_of crew k)) ran.done ran.end) slots (now k).locals (progress (start k)) stands.last (lane_works k ran.phases) (answer_due (halt_in (now k))) (lane_goes k less) in
      let mine : (start k).tally.draws ≡ draws k = ap (λ (t : Tally). t.draws) (begins k d less).tally in
      let drew : (now k).tally.draws ≡ record (start k).tally.draws { view = after_draws logged.draws.drawn (start k).tally.draws.view } = ap (λ (t : Tally). t.draws) stands.up.tally ∙ logged.draws.draws in (
        ap (λ (h : HandValue Share). h.table) drew ∙ ap (λ (h : HandValue Share). h.table) mine,
        ap (λ (h : HandValue Share). h.there) drew ∙ ap (λ (h : HandValue Share). h.there) mine,
        ap (λ (h : HandValue Share). h.view.first) drew ∙ ap (λ (h : HandValue Share). h.view.first) mine,
      )

  pub ran_draws : HasCounts team slots → ((loop : ℕ) → AreEachOnce (numbers loop (drawn_by (λ k. (now k).tally.draws.view.drawn) 0 crew.span)))
      → (program : Program) → program.arrays ≡ crew.arrays → (loop : ℕ) → DrewSome (region_logs ran.phases crew.span) loop
  ran_draws has once program arrays loop =
      region_draws program fork has crew.span ran.phases (λ k. progress (now k)) drew (ran_lanes program arrays) once loop

  pub ran_stops : (k : ℕ) (less : k < crew.span) (h : Halt) → halt_in (now k) ≡ Some h
      → StopsTask crew.arrays (lane_of at number k team.span) (stop_of (lane_of at number k team.span) h).0 (stop_of (lane_of at number k team.span) h).1 (lane_begin fork k) (lane_works k ran.phases)
  ran_stops k less h is =
      let b = begins k d less in
      stops_task fork k (world_of crew k) (task_part (site (world_of crew k)) ran.done ran.end) (first k) (now k).locals (progress (start k)) (ran.stands.lanes k d less).last b.none_put (lane_works k ran.phases) (lane_of at number k team.span) b.own
      (ap (λ (t : Tally). t.forked) b.tally) h
      (subst (λ (x : Option Halt). TaskGoes (world_of crew k) (task_part (site (world_of crew k)) ran.done ran.end) slots (now k).locals (progress (start k)) (ran.stands.lanes k d less).last (lane_works k ran.phases) (answer_due x)) is (lane_goes k less))

  -- a lane's log lacks no barrier and no End of what it put
  logged : (k : ℕ) (less : k < crew.span) → IsPut (lane_works k ran.phases)
  logged k less =
      goes_put (world_of crew k) (task_part (site (world_of crew k)) ran.done ran.end) slots (now k).locals (progress (start k)) (ran.stands.lanes k d less).last (lane_works k ran.phases) (answer_due (halt_in (now k))) (lane_goes k less)

  -- a lane that goes on went further than one that doesn't
  pub ran_further : (j k : ℕ) → j < crew.span → k < crew.span → (now j).stopped ≡ None → (h : Halt) → halt_in (now k) ≡ Some h → GoesFurther (works_log (lane_works j ran.phases)) (works_log (lane_works k ran.phases))
  ran_further j k less within goes h stops = by ran.end refl where
    ahead : LaneStands crew (start j) ran.done ran.end ran.phases j (now j)
    ahead = ran.stands.lanes j d less

    behind : IsBehind ran.done (barrier_count (records_put k ran.phases))
    behind = (ran.stands.lanes k d within).behind h stops

    by : (end : Option ℕ) → ran.end ≡ end → GoesFurther (works_log (lane_works j ran.phases)) (works_log (lane_works k ran.phases))
    by (Some line) is = inr ((logged j less).ends (ahead.ends line is goes))
    by None is =
        let bar = ran.early is in
        let same = snoc_same behind.earlier bar.earlier behind.last bar.last (sym behind.parts ∙ bar.parts) in
        let all = ap (λ (ps : List (List Item)). bar_count (parts_in ps)) behind.parts ∙ bars_after behind.earlier behind.last in
        let one = ap (λ (items : List Item). bar_count (map part_of items)) same.1 ∙ bar.bar in
        let mine = ahead.passes goes in
        let other = behind.count in
        let my_log = (logged j less).bars in
        let other_log = (logged k within).bars in
        inl (omega (arith, all, one, mine, other, my_log, other_log))
