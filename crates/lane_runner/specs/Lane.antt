-- A lane of a team, what it does in a phase, and its End.
use Rattle.std.specs.Prelude.{◌≡◌, ℕ, ◌+◌, ◌<◌, ◌≤◌, List, [], ◌∷◌, ◌++◌, map, ℤ, if◌then◌else◌, Option, Some, None, Result, Ok, Err}
use Rattle.std.specs.Ordering.{eq_by_cmp}
use Rattle.sw_base.specs.declared.path.Step.{Step}
use Rattle.sw_base.specs.Names.{path_cmp}
use Rattle.log_format.specs.declared.record.Kind.TheVariants as kind
use Rattle.kernel_model.specs.declared.phase.Item.{Item}
use Rattle.kernel_model.specs.Parts.{bar_count, drawn_count, run_parts}
use Rattle.kernel_model.specs.Phases.{part_of}
use Rattle.kernel_model.specs.State.{event}
use Rattle.shared_words.specs.declared.view.View.{View}
use Rattle.shared_words.specs.Handles.{HandValue}
use Rattle.event_buffer.specs.Buffered.{Buffered}
use Rattle.lane_runner.specs.declared.stop.Halt.{Halt}
use Rattle.lane_runner.specs.declared.stop.Halt.TheVariants as halt
use Rattle.lane_runner.specs.declared.stop.Stop.{Stop}
use Rattle.lane_runner.specs.declared.stop.Stop.TheVariants as stop
use Rattle.lane_runner.specs.Drawing.{Tally}
use Rattle.lane_runner.specs.Forking.{IsReady}
use Rattle.lane_runner.specs.Going.{Progress, CanGo, GoesPast, IsSameLog, TakesOrHalts, site}
use Rattle.lane_runner.specs.Handed.{HandedEntry, MaybeStop}
use Rattle.lane_runner.specs.World.{WorldValue}

-- Its path, its locals, its hand, the buffer before its log, what it drew and how many regions it forked, the logs that these handed
-- on, and why it doesn't go on, if it doesn't: the path of the task that stopped, its own or that of a task in the region that it
-- forked last, and that task's stop.
pub record LaneValue : Type 0 where
  pub path : List Step
  pub locals : List ℤ
  pub hand : HandValue View
  pub buffer : Buffered
  pub tally : Tally
  pub done : List HandedEntry
  pub stopped : MaybeStop

-- what of it changes with each step
abbrev pub progress : LaneValue → Progress
progress lane = record { hand = lane.hand; buffer = lane.buffer; tally = lane.tally; done = lane.done }

-- the path is that of the root, or its last step is a lane of a team
abbrev pub IsLanePath : List Step → Type 0
IsLanePath path = (above : List Step) (step : Step) → path ≡ above ++ step ∷ [] → step.lane < step.span

abbrev pub with_hand : LaneValue → HandValue View → LaneValue
with_hand lane hand = record lane { hand = hand }

abbrev pub hand_view : LaneValue → View
hand_view lane = lane.hand.view

-- the same but for its hand
abbrev pub IsWithoutHand : LaneValue → LaneValue → Type 0
IsWithoutHand old new = new ≡ with_hand old new.hand

-- which task stopped, and why: the lane at this path, or a task of a region that it forked
abbrev pub stop_of : List Step → Halt → List Step × Stop
stop_of path (halt.Own why) = (path, why)
stop_of path (halt.Region below why) = (below, why)

-- why the lane at this path doesn't go on, if it doesn't, by which task stopped, and why
abbrev pub halt_of : List Step → MaybeStop → Option Halt
halt_of path None = None
halt_of path (Some stopped) = Some (if eq_by_cmp path_cmp stopped.0 path then halt.Own stopped.1 else halt.Region stopped.0 stopped.1)

abbrev pub halt_in : LaneValue → Option Halt
halt_in lane = halt_of lane.path lane.stopped

-- what the execution of a part answered, where the lane doesn't go on for this reason, if it doesn't
abbrev pub answer_due : Option Halt → Result (Unit {0}) Halt
answer_due None = Ok tt
answer_due (Some why) = Err why

-- what the lane notes of such an answer
abbrev pub noted : List Step → Result (Unit {0}) Halt → MaybeStop
noted path (Ok _) = None
noted path (Err why) = Some (stop_of path why)

-- what a call of the lane answers, by what it noted
abbrev pub answer_noted : MaybeStop → Result (Unit {0}) Stop
answer_noted None = Ok tt
answer_noted (Some stopped) = Err stopped.1

-- The lane can execute the items of a phase.
pub record CanGoOn (w : WorldValue) (items : List Item) (lane : LaneValue) : Type 0 where
  pub going : lane.stopped ≡ None
  pub own : lane.buffer.path ≡ lane.path
  pub can : CanGo w (progress lane)
  pub free : lane.hand.view.held ≡ []
  pub counters : lane.tally.next_loop + drawn_count (map part_of items) ≤ w.chunks.loops

-- The lane executed the items of a phase.
pub record Executed (w : WorldValue) (items : List Item) (old new : LaneValue) : Type 0 where
  pub path : new.path ≡ old.path
  pub goes : GoesPast (bar_count (map part_of items)) w (run_parts (site w) (map part_of items)) old.locals new.locals (progress old) (progress new) (answer_due (halt_in new))
  pub log : IsSameLog old.buffer new.buffer
  pub loops : new.stopped ≡ None → new.tally.next_loop ≡ old.tally.next_loop + drawn_count (map part_of items)
  pub ready : IsReady new.hand w.words
  pub can : new.stopped ≡ None → CanGo w (progress new)

-- The lane put its End of this line, or its log had no place for it.
pub record PutsEnd (line : ℕ) (old new : LaneValue) : Type 0 where
  pub path : new.path ≡ old.path
  pub locals : new.locals ≡ old.locals
  pub takes : TakesOrHalts (event kind.End line 0 0) old.hand.view (progress old) (progress new) (answer_due (halt_in new))
  pub log : IsSameLog old.buffer new.buffer
