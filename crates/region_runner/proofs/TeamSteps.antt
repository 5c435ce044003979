-- A team goes on with one phase more: all its lanes, and its hand.
use Rattle.std.proofs.Common.{◌≡◌, refl, ap, sym, ◌∙◌, subst, ℕ, suc, ◌+◌, ◌<◌, ◌≤◌, List, [], ◌∷◌, ◌++◌, length, map, Option, Some, None, slice_index_or, arith}
use Rattle.std.specs.List.{flat_map}
use Rattle.std.proofs.lemmas.Grind.{flat_map-append}
use Rattle.std.proofs.lemmas.List.{append-nil, get_or_default}
use Rattle.history_model.proofs.Parts.{phases_pass}
use Rattle.log_format.specs.declared.record.Record.{Record}
use Rattle.race_model.specs.Trace.{barrier_count}
use Rattle.kernel_model.specs.declared.phase.Item.{Item}
use Rattle.kernel_model.specs.Parts.{bar_count}
use Rattle.kernel_model.specs.Phases.{part_of}
use Rattle.event_buffer.specs.Buffered.{Buffered}
use Rattle.shared_words.specs.declared.view.View.{View}
use Rattle.shared_words.specs.Handles.{HandValue, with_view}
use Rattle.history_model.specs.Work.{Work, Phases, NoPhase, Phase, lane_works, then_phases, work_records}
use Rattle.history_model.specs.Sound.{PassAllBarriers}
use Rattle.history_model.specs.Joined.{LastIsEnd, PhasesEnd}
use Rattle.history_laws.proofs.EndedLanes.{ends_behind}
use Rattle.race_model.proofs.Counted.{barriers_both}
use Rattle.lane_runner.specs.Going.{IsSameLog, site}
use Rattle.lane_runner.proofs.Bodies.{log_later}
use Rattle.region_runner.specs.LastPhase.{IsLast, WentOn}
use Rattle.region_runner.specs.Crew.{CrewValue, world_of}
use Rattle.region_runner.specs.Hands.{joined_with, lane_hand, parted_for}
use Rattle.lane_runner.specs.Lane.{LaneValue, answer_due, halt_in, hand_view, progress, with_hand}
use Rattle.region_runner.specs.Ran.{TaskGoes, task_part}
use Rattle.region_runner.specs.Stands.{AllGo, LaneStands, MayStep, RanPhase, TeamStands, records_put}
use Rattle.region_runner.specs.Team.{DidPhases, DidWork, team_of_works}
use Rattle.region_runner.proofs.Standing.{StepsOn, bars_after, drawn_after, lane_steps}
use Rattle.region_runner.proofs.TeamPhases.{Works, choose, lane_works_more, phase_did, phases_did_more, phases_end, team_ends, team_passes, views_from}

views_more : (k : ℕ) (xs : List LaneValue) (at : ℕ → View) → ((i : ℕ) (d : LaneValue) → i < length xs → at (k + i) ≡ hand_view (slice_index_or xs i d)) → map hand_view xs ≡ views_from k (length xs) at
views_more k [] at is = refl
views_more k (x ∷ xs) at is =
    ap (λ (v : View). v ∷ map hand_view xs) (sym (is 0 x (omega arith)) ∙ ap at (let e : k + 0 ≡ k = omega arith in e))
    ∙ ap (λ (vs : List View). at k ∷ vs) (views_more (suc k) xs at (λ i d less. ap at (let e : suc k + i ≡ k + suc i = omega arith in e) ∙ is (suc i) d (omega arith)))

some_lane : (xs : List LaneValue) → 1 ≤ length xs → LaneValue
some_lane [] some = absurd (omega arith)
some_lane (x ∷ xs) some = x

-- how the team stands then
pub record TeamSteps (crew : CrewValue) (items : List Item) (end : Option ℕ) (old new : HandValue View) (before after : List LaneValue) (done : List (List Item)) : Type 0 where
  pub phases : Phases
  pub stands : TeamStands crew (done ++ items ∷ []) end phases old new before after
  pub passes : AllGo after → bar_count (map part_of items) ≡ 1 → PassAllBarriers phases
  pub ends : (line : ℕ) → end ≡ Some line → AllGo after → PhasesEnd phases

module _ (crew : CrewValue) (items : List Item) (end : Option ℕ) (old home new : HandValue View) (before prev after : List LaneValue) (done : List (List Item)) (phases : Phases) (some : 1 ≤ crew.span)
    (first : length before ≡ crew.span) (stands : TeamStands crew done None phases old home before prev) (going : AllGo prev) (ran : RanPhase crew items end home new prev after)
    (last : (line : ℕ) → end ≡ Some line → IsLast items line) (none : old.view.out ≡ []) (pass : PassAllBarriers phases) where
  d : LaneValue
  d = some_lane prev (let c = stands.count in omega (arith, c, some))

  in_prev : (k : ℕ) → k < crew.span → k < length prev
  in_prev k less = let c = stands.count in omega (arith, c, less)

  in_after : (k : ℕ) → k < crew.span → k < length after
  in_after k less = let c = stands.count in let m = ran.count in omega (arith, c, m, less)

  abbrev Steps : ℕ → Type 0
  Steps k = StepsOn crew items end k (slice_index_or before k d) done phases (lane_hand home k) (slice_index_or ran.mid k d)

  step : (k : ℕ) → k < crew.span → Steps k
  step k less =
      lane_steps crew items k (slice_index_or before k d) (slice_index_or prev k d) (slice_index_or ran.mid k d) done phases (lane_hand home k) (stands.lanes k d less) (going k d (in_prev k less)) refl end
      (ran.went k d (in_prev k less)) last

  works : Works crew.span (λ k work. (s : Steps k) × (s.work ≡ work))
  works = choose crew.span (λ k work. (s : Steps k) × (s.work ≡ work)) (λ k less. ((step k less).work, (step k less, refl)))

  abbrev later : Phases
  later = Phase (team_of_works 0 crew.span works.work) NoPhase

  out_none : home.view.out ≡ []
  out_none = ap (λ (h : HandValue View). h.view.out) stands.did.hand ∙ none

  views : map hand_view ran.mid ≡ views_from 0 crew.span (λ k. hand_view (slice_index_or ran.mid k d))
  views =
      views_more 0 ran.mid (λ k. hand_view (slice_index_or ran.mid k d)) (λ i e less. ap (λ (n : ℕ). hand_view (slice_index_or ran.mid n d)) (let z : 0 + i ≡ i = omega arith in z) ∙ ap hand_view (get_or_default ran.mid i d e less))
      ∙ ap (λ (n : ℕ). views_from 0 n (λ k. hand_view (slice_index_or ran.mid k d))) (ran.mid_count ∙ stands.count)

  did_more : DidPhases crew.arrays crew.span home new later
  did_more =
      phase_did crew.arrays crew.span home new works.work (λ k. (slice_index_or ran.mid k d).hand) (λ k. lane_hand home k) ran.rests out_none (λ k less. refl)
      (λ k less. let s = works.each k less in subst (λ (work : Work). DidWork crew.arrays (lane_hand home k) (slice_index_or ran.mid k d).hand work) s.1 s.0.did)
      (ran.hand ∙ ap (λ (vs : List View). with_view home (joined_with vs (parted_for 0 crew.span crew.span home.view))) views)

  stopped_same : (k : ℕ) → k < crew.span → (slice_index_or after k d).stopped ≡ (slice_index_or ran.mid k d).stopped
  stopped_same k less = ap (λ (m : LaneValue). m.stopped) (ran.same k d (in_prev k less))

  abbrev start : ℕ → LaneValue
  start k = slice_index_or before k d

  abbrev mid : ℕ → LaneValue
  mid k = slice_index_or ran.mid k d

  same : (k : ℕ) → k < crew.span → slice_index_or after k d ≡ with_hand (mid k) (slice_index_or after k d).hand
  same k less = ran.same k d (in_prev k less)

  went : (k : ℕ) → k < crew.span → WentOn (world_of crew k) items end (with_hand (slice_index_or prev k d) (lane_hand home k)) (mid k)
  went k less = ran.went k d (in_prev k less)

  lane_now : (k : ℕ) → k < crew.span → LaneStands crew (slice_index_or before k d) (done ++ items ∷ []) end (then_phases phases later) k (slice_index_or after k d)
  lane_now k less = record {
    path = ap (λ (m : LaneValue). m.path) (same k less) ∙ (went k less).path ∙ (stands.lanes k d less).path;
    last = progress (mid k);
    up = record {
      buffer = ap (λ (m : LaneValue). m.buffer) (same k less);
      tally = ap (λ (m : LaneValue). m.tally) (same k less);
      done = ap (λ (m : LaneValue). m.done) (same k less);
    };
    goes =
        subst (λ (m : LaneValue). TaskGoes (world_of crew k) (task_part (site (world_of crew k)) (done ++ items ∷ []) end) (start k).locals m.locals (progress (start k)) (progress (mid k)) (lane_works k (then_phases phases later)) (answer_due (halt_in m))) (sym (same k less))
        (subst (λ (ws : List Work). TaskGoes (world_of crew k) (task_part (site (world_of crew k)) (done ++ items ∷ []) end) (start k).locals (mid k).locals (progress (start k)) (progress (mid k)) ws (answer_due (halt_in (mid k))))
        (ap (λ (work : Work). lane_works k phases ++ work ∷ []) (works.each k less).1 ∙ sym (lane_works_more crew.span k phases works.work less))
        (works.each k less).0.goes);
    log =
        subst (λ (b : Buffered). IsSameLog (start k).buffer b) (ap (λ (m : LaneValue). m.buffer) (sym (same k less)))
        (log_later (start k).buffer (slice_index_or prev k d).buffer (mid k).buffer (stands.lanes k d less).log (went k less).log);
    loops = λ goes.
        let so_far = (stands.lanes k d less).loops (going k d (in_prev k less)) in
        let more = (went k less).loops (ap (λ (m : LaneValue). m.stopped) (sym (same k less)) ∙ goes) in
        let counts = drawn_after done items in
        let now : (slice_index_or after k d).tally.next_loop ≡ (mid k).tally.next_loop = ap (λ (m : LaneValue). m.tally.next_loop) (same k less) in
        omega (arith, so_far, more, counts, now);
    may = λ goes.
        subst (λ (m : LaneValue). MayStep crew m) (sym (same k less))
        (record {
          unrefused = ((went k less).can (ap (λ (m : LaneValue). m.stopped) (sym (same k less)) ∙ goes)).unrefused;
          drawing = ((went k less).can (ap (λ (m : LaneValue). m.stopped) (sym (same k less)) ∙ goes)).drawing;
          enough = ((went k less).can (ap (λ (m : LaneValue). m.stopped) (sym (same k less)) ∙ goes)).enough;
          forks = ((went k less).can (ap (λ (m : LaneValue). m.stopped) (sym (same k less)) ∙ goes)).forks;
        });
    passes = λ goes.
        let first = (stands.lanes k d less).passes (going k d (in_prev k less)) in
        let mine = step_of.passes (sym (stopped_same k less) ∙ goes) in
        let all = ap (λ (rs : List Record). barrier_count rs) put_more ∙ barriers_both (records_put k phases) (work_records step_of.work) in
        let bars = bars_after done items in
        omega (arith, first, mine, all, bars);
    ends = λ line is_line goes. subst (λ (rs : List Record). LastIsEnd rs) (sym put_more) (ends_behind (records_put k phases) (work_records step_of.work) (step_of.ends line is_line (sym (stopped_same k less) ∙ goes)));
    behind = λ h is. record {
      earlier = done;
      last = items;
      parts = refl;
      count =
          let first = (stands.lanes k d less).passes (going k d (in_prev k less)) in
          let mine = step_of.short h (sym (ap halt_in (same k less)) ∙ is) in
          let all = ap (λ (rs : List Record). barrier_count rs) put_more ∙ barriers_both (records_put k phases) (work_records step_of.work) in
          omega (arith, first, mine, all);
    };
  }
    where
      step_of : Steps k
      step_of = (works.each k less).0

      put_more : records_put k (then_phases phases later) ≡ records_put k phases ++ work_records step_of.work
      put_more =
          ap (λ (ws : List Work). flat_map work_records ws) (lane_works_more crew.span k phases works.work less)
          ∙ flat_map-append work_records (lane_works k phases) (works.work k ∷ [])
          ∙ ap (λ (rs : List Record). records_put k phases ++ rs) (append-nil (work_records (works.work k)))
          ∙ ap (λ (work : Work). records_put k phases ++ work_records work) (sym (works.each k less).1)

  pub team_steps : TeamSteps crew items end old new before after done
  team_steps = record {
    phases = then_phases phases later;
    stands = record {
      count = ran.count ∙ stands.count;
      did = phases_did_more crew.arrays crew.span old home new phases later stands.did pass did_more;
      lanes = λ k e less.
          subst (λ (m : LaneValue). LaneStands crew m (done ++ items ∷ []) end (then_phases phases later) k (slice_index_or after k e)) (get_or_default before k d e (let f = first in omega (arith, f, less)))
          (subst (λ (m : LaneValue). LaneStands crew (slice_index_or before k d) (done ++ items ∷ []) end (then_phases phases later) k m) (get_or_default after k d e (in_after k less)) (lane_now k less));
    };
    passes = λ all one.
        phases_pass phases (team_of_works 0 crew.span works.work) pass
        (team_passes crew.span works.work
        (λ k less. let s = works.each k less in ap (λ (work : Work). barrier_count (work_records work)) (sym s.1) ∙ s.0.passes (sym (stopped_same k less) ∙ all k d (in_after k less)) ∙ one));
    ends = λ line is all.
        phases_end phases (team_of_works 0 crew.span works.work)
        (team_ends crew.span works.work
        (λ k less. let s = works.each k less in subst (λ (work : Work). LastIsEnd (work_records work)) s.1 (s.0.ends line is (sym (stopped_same k less) ∙ all k d (in_after k less)))));
  }
