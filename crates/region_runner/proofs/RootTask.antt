-- What the root did, once its log is closed.
use Rattle.std.proofs.Common.{◌≡◌, inl, inr, refl, ap, sym, ◌∙◌, subst, ℕ, List, [], ◌∷◌, ℤ, Option, Some, None, arith, true}
use Rattle.std.proofs.lemmas.Option.{same_Some}
use Rattle.sw_base.specs.declared.path.Step.{Step}
use Rattle.kernel_syntax.specs.declared.syntax.Array.{Array}
use Rattle.kernel_syntax.specs.Program.{Program}
use Rattle.kernel_model.specs.declared.phase.Item.{Item}
use Rattle.kernel_model.specs.Folder.{own_trace, root_start}
use Rattle.kernel_model.specs.Parts.{run_parts}
use Rattle.kernel_model.specs.Phases.{parts_in}
use Rattle.kernel_model.specs.State.{Fork, State, Outcome}
use Rattle.kernel_model.specs.Trace.{run}
use Rattle.kernel_model.specs.Value.{Site}
use Rattle.shared_words.specs.declared.share.Share.{Share}
use Rattle.shared_words.specs.declared.view.View.{View}
use Rattle.shared_words.specs.Handles.{HandValue, with_view}
use Rattle.history_model.specs.Work.{Rest, NoPhase}
use Rattle.execution_model.specs.Runs.{RunsTask, RunsRegions, lane_begin}
use Rattle.lane_runner.specs.declared.stop.Halt.{Halt}
use Rattle.lane_runner.specs.Drawing.{Tally}
use Rattle.lane_runner.specs.Going.{site}
use Rattle.lane_runner.specs.Handed.{AreFew, HandedEntry, LogPlace}
use Rattle.execution_model.specs.Elements.{element_word}
use Rattle.lane_runner.proofs.Working.{hand_still, worked_none}
use Rattle.region_runner.specs.LastPhase.{IsLast}
use Rattle.region_runner.specs.Begins.{LaneBegins}
use Rattle.region_runner.specs.Closing.{IsClosedAs}
use Rattle.region_runner.specs.Crew.{CrewValue, world_of}
use Rattle.region_runner.specs.Gathering.{ClosedValue, LaneGave}
use Rattle.lane_runner.proofs.Halting.{stopped_none}
use Rattle.lane_runner.specs.Lane.{LaneValue, answer_due, halt_in, progress, stop_of}
use Rattle.region_runner.specs.Opening.{GaveNothing}
use Rattle.region_runner.specs.Ran.{TaskGoes, task_part}
use Rattle.region_runner.specs.Root.{RootClosed, RootGave, StopsRoot}
use Rattle.region_runner.specs.Stands.{IsFresh}
use Rattle.region_runner.specs.Stopping.{StopsTask}
use Rattle.region_runner.specs.Team.{DidWork}
use Rattle.region_runner.proofs.GivenLogs.{lane_gave}
use Rattle.region_runner.proofs.RegionLanes.{BeginsLane, task_begins}
use Rattle.region_runner.proofs.Standing.{StepsOn, lane_steps}
use Rattle.region_runner.proofs.TaskStops.{stops_task}
use Rattle.region_runner.proofs.TeamLoop.{stands_first}
use Rattle.region_runner.proofs.Traced.{runs_goes}

-- ---- a root that executed its phase

module _ (program : Program) (place : LogPlace) (crew : CrewValue) (items : List Item) (old new : HandValue View) (root : LaneValue) (c : ClosedValue) (draws : HandValue Share) (arrays : crew.arrays ≡ program.arrays)
    (alone : crew.span ≡ program.main.span) (runs : (at : Site) (s : State) → run_parts at (parts_in (items ∷ [])) s ≡ run at program.main.body s) (last : IsLast items program.main.end)
    (begins : LaneBegins place [] (root_start program).slots draws root) (fresh : IsFresh crew root) (free : old.view.held ≡ []) (closed : RootClosed crew items program.main.end old new root c) where
  abbrev fork : Fork
  fork = record { team = program.main; slots = (root_start program).slots }

  abbrev part : State → Outcome (Unit {0})
  part = task_part (site (world_of crew 0)) (items ∷ []) (Some program.main.end)

  abbrev after : LaneValue
  after = closed.after

  first : BeginsLane fork 0 (world_of crew 0) part
  first = task_begins fork 0 (world_of crew 0) refl alone (items ∷ []) runs (items ∷ []) [] refl (Some program.main.end) (inr (refl, refl))

  steps : StepsOn crew items (Some program.main.end) 0 root [] NoPhase old after
  steps =
      lane_steps crew items 0 root root after [] NoPhase old (stands_first crew 0 root fresh) fresh.going free (Some program.main.end) closed.went
      (λ line is. subst (λ (n : ℕ). IsLast items n) (same_Some program.main.end line is) last)

  abbrev Goes : Option Halt → Type 0
  Goes h = TaskGoes (world_of crew 0) part fork.slots after.locals (progress root) (progress after) (steps.work ∷ []) (answer_due h)

  goes : Goes c.halt
  goes =
      subst (λ (h : Option Halt). Goes h) (sym closed.closes.4)
      (subst (λ (ss : List ℤ). TaskGoes (world_of crew 0) part ss after.locals (progress root) (progress after) (steps.work ∷ []) (answer_due (halt_in after))) begins.locals_are steps.goes)

  path_is : c.path ≡ []
  path_is = closed.closes.0 ∙ closed.went.path ∙ begins.path_is

  gave : LaneGave place (steps.work ∷ []) c
  gave =
      lane_gave crew 0 part fork.slots after.locals (progress root) (progress after) (steps.work ∷ []) place c
      (subst (λ (p : List Step). IsClosedAs c.own c.refused p after.buffer) (sym closed.closes.0) closed.closes.1)
      closed.closes.2 begins.none_handed begins.holds (ap (λ (t : Tally). t.forked) begins.tally) (begins.own ∙ sym path_is) begins.place_is goes

  few : (h : Option Halt) → h ≡ None → Goes h → AreFew c.below
  few None is t = subst (λ (es : List HandedEntry). AreFew es) (sym closed.closes.2) (t.few (subst (λ (es : List HandedEntry). AreFew es) (sym begins.none_handed) (omega arith)))
  few (Some h) is t = absurd (no_halt is) where
    no_halt : Some h ≡ None → ⊥
    no_halt e = cc

  halts : (h : Halt) → c.halt ≡ Some h → StopsRoot program (stop_of [] h).0 (stop_of [] h).1 steps.work
  halts h is =
      subst (λ (xs : List Array). StopsTask xs [] (stop_of [] h).0 (stop_of [] h).1 (root_start program) (steps.work ∷ [])) arrays
      (stops_task fork 0 (world_of crew 0) part first after.locals (progress root) (progress after) begins.none_put (steps.work ∷ []) [] begins.own (ap (λ (t : Tally). t.forked) begins.tally) h
      (subst (λ (x : Option Halt). Goes x) is goes))

  pub root_gave : RootGave program place old new c
  root_gave = record {
    work = steps.work;
    did = subst (λ (h : HandValue View). DidWork program.arrays old h steps.work) (sym closed.hand) (subst (λ (xs : List Array). DidWork xs old after.hand steps.work) arrays steps.did);
    path_is = path_is;
    gave = gave;
    runs =
        runs_goes program (lane_begin fork 0) (world_of crew 0) (sym arrays) part first.rest first.grows (first.is program (sym arrays)) after.locals (progress root) (progress after) begins.none_put (steps.work ∷ [])
        (answer_due c.halt) goes;
    ends = λ none unrefused. steps.ends program.main.end refl (stopped_none after (sym closed.closes.4 ∙ none));
    halts = halts;
    few = λ none unrefused. few c.halt none goes;
  }

-- ---- a root that executed nothing

pub did_nothing : (arrays : List Array) (hand : HandValue View) → hand.there ≡ true → DidWork arrays hand hand Rest
did_nothing arrays hand there = record { hand = hand_still hand there ∙ ap (λ (v : View). with_view hand v) (sym (worked_none (element_word arrays) hand.view)); sound = tt; joined = tt }

pub runs_nothing : (program : Program) → RunsTask program (root_start program) (Rest ∷ [])
runs_nothing program =
    let start = root_start program in
    RunsTask.runs start (Rest ∷ []) [] (own_trace program start []).forks (record { rest = (own_trace program start []).records; begins = refl }) (inl refl) refl RunsRegions.no_region

gave_rest : (place : LogPlace) (c : ClosedValue) → LaneGave place [] c → LaneGave place (Rest ∷ []) c
gave_rest place c g = record {
  task = g.task;
  dir = g.dir;
  own_path = g.own_path;
  tells = g.tells;
  count = g.count;
  taken = g.taken;
  failed = g.failed;
  faultless = g.faultless;
  hands = g.hands;
  refusal = g.refusal;
  crowded = g.crowded;
  under = g.under;
}

-- its log could not be opened
pub root_torn : (program : Program) (place : LogPlace) (hand : HandValue View) (draws : HandValue Share) (c : ClosedValue) → hand.there ≡ true → GaveNothing place [] draws c × ((c.refused ≡ None) → ⊥) → RootGave program place hand hand c
root_torn program place hand draws c there (nothing, refused) = record {
  work = Rest;
  did = did_nothing program.arrays hand there;
  path_is = nothing.path_is;
  gave = gave_rest place c nothing.gave;
  runs = runs_nothing program;
  ends = λ none unrefused. absurd (refused unrefused);
  halts = λ h is. absurd (no_halt (sym nothing.none_halted ∙ is));
  few = λ none unrefused. absurd (refused unrefused);
}
  where
    no_halt : {h : Halt} → None ≡ Some h → ⊥
    no_halt e = cc
