-- A team goes on with one phase more.
use Rattle.std.proofs.Common.{◌≡◌, refl, ap, sym, ◌∙◌, subst, ℕ, ◌+◌, ◌-◌, List, [], ◌∷◌, ◌++◌, map, ℤ, Option, Some, None, Result, Ok, arith}
use Rattle.std.specs.Prelude.{Bool, count_by}
use Rattle.std.proofs.lemmas.List.{append-nil}
use Rattle.log_format.specs.Limit.{record_limit}
use Rattle.log_format.specs.declared.record.Kind.TheVariants as kind
use Rattle.log_format.specs.declared.record.Record.{Record}
use Rattle.race_model.specs.Trace.{barrier_count}
use Rattle.kernel_model.specs.declared.phase.Item.{Item}
use Rattle.kernel_model.specs.Parts.{Part, bar_count, drawn_count, is_bar, is_drawn, run_parts}
use Rattle.kernel_model.specs.Phases.{part_of, parts_in}
use Rattle.kernel_model.specs.State.{State, Outcome, after, event, put}
use Rattle.kernel_model.specs.Value.{Site}
use Rattle.kernel_model.specs.Effect.{Returned}
use Rattle.kernel_model.proofs.Effects.{makes-stays}
use Rattle.kernel_model.proofs.Joining.{after-after, run_parts-append}
use Rattle.event_buffer.specs.Buffered.{Buffered}
use Rattle.event_buffer.specs.Logged.{HoldsRecords}
use Rattle.shared_words.specs.declared.view.View.{View}
use Rattle.shared_words.specs.Handles.{HandValue}
use Rattle.history_model.specs.Work.{Work, Rest, Phases, lane_works, work_records}
use Rattle.history_model.specs.Joined.{LastIsEnd}
use Rattle.execution_model.specs.Runs.{RunsRegions}
use Rattle.history_model.proofs.Parts.{count_cons}
use Rattle.lane_runner.specs.declared.stop.Halt.{Halt}
use Rattle.lane_runner.specs.Going.{GainsRecords, GoesPast, Progress, site}
use Rattle.lane_runner.specs.World.{WorldValue}
use Rattle.lane_runner.proofs.Drawing.{drew_none}
use Rattle.lane_runner.proofs.Ending.{ended_none}
use Rattle.lane_runner.proofs.Handing.{work_hands_none}
use Rattle.lane_runner.proofs.Releasing.{released_none}
use Rattle.lane_runner.proofs.Halting.{halt_none, stopped_none}
use Rattle.region_runner.specs.LastPhase.{IsLast, WentOn, phase_part}
use Rattle.region_runner.specs.Crew.{CrewValue, world_of}
use Rattle.lane_runner.specs.Lane.{LaneValue, answer_due, halt_in, progress, with_hand}
use Rattle.region_runner.specs.Ran.{TakesUp, TaskGoes, TaskRan, task_part}
use Rattle.region_runner.specs.Stands.{LaneStands}
use Rattle.region_runner.specs.Team.{DidWork}
use Rattle.region_runner.proofs.Continuing.{goes_on}
use Rattle.region_runner.proofs.JoinedWork.{phase_did_work, phase_short, work_of}
use Rattle.region_runner.proofs.RegionLanes.{parts_both}

-- ---- before the first phase

gains_none : (b : Buffered) → GainsRecords b b []
gains_none b = record {
  records = λ header records held. subst (λ (rs : List Record). HoldsRecords header b rs) (sym (append-nil records)) held;
  count = omega arith;
  path = refl;
  place = refl;
}

pub ran_none : (w : WorldValue) (at : Site) (slots : List ℤ) (p : Progress) → p.buffer.refused ≡ None → TaskRan w (task_part at [] None) slots slots p p [] (Returned tt)
ran_none w at slots p unrefused = record {
  forks = [];
  own = [];
  logged = record { log = gains_none p.buffer; draws = drew_none p.tally; forked = omega arith };
  released = released_none [];
  closes = refl;
  ended = ended_none;
  handed = work_hands_none p p Rest refl refl;
  few = λ less. less;
  unrefused = unrefused;
  makes = makes-stays (task_part at [] None) slots (record_limit - p.buffer.count) (Returned tt) (λ s same full. refl);
  regions = λ program is. RunsRegions.no_region;
}

-- ---- one phase more

one_phase : (items : List Item) → parts_in (items ∷ []) ≡ map part_of items
one_phase items = ap (λ (xs : List Item). map part_of xs) (append-nil items)

phase_after : (at : Site) (done : List (List Item)) (items : List Item) (s : State)
    → run_parts at (parts_in (done ++ items ∷ [])) s ≡ after (run_parts at (parts_in done) s) (run_parts at (map part_of items))
phase_after at done items s =
    ap (λ (ps : List Part). run_parts at ps s) (parts_both done (items ∷ []) ∙ ap (λ (ps : List Part). parts_in done ++ ps) (one_phase items))
    ∙ run_parts-append at (parts_in done) (map part_of items) s

part_after : (at : Site) (done : List (List Item)) (items : List Item) (end : Option ℕ) (s : State)
    → task_part at (done ++ items ∷ []) end s ≡ after (task_part at done None s) (phase_part items end at)
part_after at done items None s = phase_after at done items s
part_after at done items (Some line) s =
    ap (λ (o : Outcome (Unit {0})). after o (put (event kind.End line 0 0))) (phase_after at done items s)
    ∙ after-after (run_parts at (parts_in done) s) (run_parts at (map part_of items)) (put (event kind.End line 0 0))

count_both : (counts : Part → Bool) (xs ys : List Part) → count_by counts (xs ++ ys) ≡ count_by counts xs + count_by counts ys
count_both counts [] ys = omega arith
count_both counts (x ∷ xs) ys =
    let whole = count_cons counts x (xs ++ ys) in
    let first = count_cons counts x xs in
    let rest = count_both counts xs ys in
    omega (arith, whole, first, rest)

count_after : (counts : Part → Bool) (done : List (List Item)) (items : List Item) → count_by counts (parts_in (done ++ items ∷ [])) ≡ count_by counts (parts_in done) + count_by counts (map part_of items)
count_after counts done items =
    ap (λ (ps : List Part). count_by counts ps) (parts_both done (items ∷ []) ∙ ap (λ (ps : List Part). parts_in done ++ ps) (one_phase items))
    ∙ count_both counts (parts_in done) (map part_of items)

pub drawn_both : (xs ys : List Part) → drawn_count (xs ++ ys) ≡ drawn_count xs + drawn_count ys
drawn_both = count_both is_drawn

pub drawn_after : (done : List (List Item)) (items : List Item) → drawn_count (parts_in (done ++ items ∷ [])) ≡ drawn_count (parts_in done) + drawn_count (map part_of items)
drawn_after = count_after is_drawn

pub bars_after : (done : List (List Item)) (items : List Item) → bar_count (parts_in (done ++ items ∷ [])) ≡ bar_count (parts_in done) + bar_count (map part_of items)
bars_after = count_after is_bar

-- what a lane did in a phase, and how it stands then
pub record StepsOn (crew : CrewValue) (items : List Item) (end : Option ℕ) (lane : ℕ) (start : LaneValue) (done : List (List Item)) (phases : Phases) (hand : HandValue View) (mid : LaneValue) : Type 0 where
  pub work : Work
  pub did : DidWork crew.arrays hand mid.hand work
  pub goes : TaskGoes (world_of crew lane) (task_part (site (world_of crew lane)) (done ++ items ∷ []) end) start.locals mid.locals (progress start) (progress mid) (lane_works lane phases ++ work ∷ []) (answer_due (halt_in mid))
  pub passes : mid.stopped ≡ None → barrier_count (work_records work) ≡ bar_count (map part_of items)
  pub ends : (line : ℕ) → end ≡ Some line → mid.stopped ≡ None → LastIsEnd (work_records work)
  pub short : (h : Halt) → halt_in mid ≡ Some h → barrier_count (work_records work) ≡ 0

module _ (crew : CrewValue) (items : List Item) (lane : ℕ) (start prev mid : LaneValue) (done : List (List Item)) (phases : Phases) (hand : HandValue View)
    (stands : LaneStands crew start done None phases lane prev) (going : prev.stopped ≡ None) (free : hand.view.held ≡ []) where
  abbrev at : Site
  at = site (world_of crew lane)

  abbrev Went : ℕ → Option ℕ → Result (Unit {0}) Halt → Type 0
  Went bars end r = GoesPast bars (world_of crew lane) (phase_part items end at) prev.locals mid.locals (progress (with_hand prev hand)) (progress mid) r

  abbrev work_in : (bars : ℕ) (end : Option ℕ) (r : Result (Unit {0}) Halt) → Went bars end r → Work
  work_in bars end r m = work_of (world_of crew lane) (phase_part items end at) prev.locals mid.locals (progress (with_hand prev hand)) (progress mid) free bars r m

  abbrev Stood : Option ℕ → Work → Result (Unit {0}) Halt → Type 0
  Stood end work r = TaskGoes (world_of crew lane) (task_part at (done ++ items ∷ []) end) start.locals mid.locals (progress start) (progress mid) (lane_works lane phases ++ work ∷ []) r

  ran : TaskRan (world_of crew lane) (task_part at done None) start.locals prev.locals (progress start) stands.last (lane_works lane phases) (Returned tt)
  ran = subst (λ (h : Option Halt). TaskGoes (world_of crew lane) (task_part at done None) start.locals prev.locals (progress start) stands.last (lane_works lane phases) (answer_due h)) (halt_none prev going) stands.goes

  up : TakesUp stands.last (progress (with_hand prev hand))
  up = record { buffer = stands.up.buffer; tally = stands.up.tally; done = stands.up.done }

  step : (bars : ℕ) (end : Option ℕ) (r : Result (Unit {0}) Halt) (m : Went bars end r) → Stood end (work_in bars end r m) r
  step bars end r m =
      subst (λ (part : State → Outcome (Unit {0})). TaskGoes (world_of crew lane) part start.locals mid.locals (progress start) (progress mid) (lane_works lane phases ++ work_in bars end r m ∷ []) r)
      (λ i s. sym (part_after at done items end s) i)
      (goes_on (world_of crew lane) (task_part at done None) (phase_part items end at) start.locals prev.locals mid.locals (progress start) stands.last (progress (with_hand prev hand)) (progress mid) (lane_works lane phases) ran up free bars r m)

  did : (bars : ℕ) (end : Option ℕ) (r : Result (Unit {0}) Halt) (m : Went bars end r) → DidWork crew.arrays hand mid.hand (work_in bars end r m)
  did bars end r m = phase_did_work (world_of crew lane) (phase_part items end at) prev.locals mid.locals (progress (with_hand prev hand)) (progress mid) free bars r m

  -- by why it doesn't go on, and whether the phase is the last
  by_halt : (h : Option Halt) → halt_in mid ≡ h → (end : Option ℕ) → WentOn (world_of crew lane) items end (with_hand prev hand) mid → ((line : ℕ) → end ≡ Some line → IsLast items line) → StepsOn crew items end lane start done phases hand mid
  by_halt (Some why) is end went last = record {
    work = work_in (bar_count (map part_of items)) end (answer_due (halt_in mid)) went.goes;
    did = did (bar_count (map part_of items)) end (answer_due (halt_in mid)) went.goes;
    goes = step (bar_count (map part_of items)) end (answer_due (halt_in mid)) went.goes;
    passes = λ none. absurd (not_both (sym is ∙ halt_none mid none));
    ends = λ line is_line none. absurd (not_both (sym is ∙ halt_none mid none));
    short = λ h h_is. short_of (halt_in mid) is went.goes;
  }
    where
      not_both : Some why ≡ None → ⊥
      not_both e = cc

      short_of : (x : Option Halt) → x ≡ Some why → (m : Went (bar_count (map part_of items)) end (answer_due x)) → barrier_count (work_records (work_in (bar_count (map part_of items)) end (answer_due x) m)) ≡ 0
      short_of None x_is m = absurd (not_both (sym x_is))
      short_of (Some other) x_is m =
          phase_short (world_of crew lane) (phase_part items end at) prev.locals mid.locals (progress (with_hand prev hand)) (progress mid) free (bar_count (map part_of items)) other m
  by_halt None is None went last =
      let m = subst (λ (h : Option Halt). Went (bar_count (map part_of items)) None (answer_due h)) is went.goes in
      record {
        work = m.work;
        did = did (bar_count (map part_of items)) None (Ok tt) m;
        goes = subst (λ (h : Option Halt). Stood None m.work (answer_due h)) (sym is) (step (bar_count (map part_of items)) None (Ok tt) m);
        passes = λ none. m.done.barriers;
        ends = λ line is_line none. absurd (no_end is_line);
        short = λ h h_is. absurd (no_halt (sym is ∙ h_is));
      }
    where
      no_halt : {h : Halt} → None ≡ Some h → ⊥
      no_halt e = cc

      no_end : {line : ℕ} → None ≡ Some line → ⊥
      no_end e = cc
  by_halt None is (Some line) went last =
      let ended = went.ended line refl (stopped_none mid is) in
      record {
        work = ended.made.work;
        did = did 0 (Some line) (Ok tt) ended.made;
        goes = subst (λ (h : Option Halt). Stood (Some line) ended.made.work (answer_due h)) (sym is) (step 0 (Some line) (Ok tt) ended.made);
        passes = λ none. ended.made.done.barriers ∙ sym (last line refl).none;
        ends = λ other is_other none. ended.last;
        short = λ h h_is. absurd (no_halt (sym is ∙ h_is));
      }
    where
      no_halt : {h : Halt} → None ≡ Some h → ⊥
      no_halt e = cc

  pub lane_steps : (end : Option ℕ) → WentOn (world_of crew lane) items end (with_hand prev hand) mid → ((line : ℕ) → end ≡ Some line → IsLast items line) → StepsOn crew items end lane start done phases hand mid
  lane_steps end went last = by_halt (halt_in mid) refl end went last
