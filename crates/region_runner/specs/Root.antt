-- What the root did, and what it left.
use Rattle.std.specs.Prelude.{◌≡◌, ◌≤◌, ℕ, List, [], ◌∷◌, length, Option, Some, None, Ok, Err}
use Rattle.sw_base.specs.declared.path.Step.{Step}
use Rattle.race_model.specs.IndexFault.{max_rows}
use Rattle.kernel_syntax.specs.Program.{Program}
use Rattle.kernel_model.specs.Folder.{root_start}
use Rattle.kernel_model.specs.declared.phase.Item.{Item}
use Rattle.shared_words.specs.declared.view.View.{View}
use Rattle.shared_words.specs.Handles.{HandValue}
use Rattle.history_model.specs.Joined.{LastIsEnd}
use Rattle.history_model.specs.Work.{Work, work_records}
use Rattle.execution_model.specs.Runs.{RunsTask}
use Rattle.lane_runner.specs.declared.stop.Halt.{Halt}
use Rattle.lane_runner.specs.declared.stop.Stop.{Stop}
use Rattle.lane_runner.specs.declared.stop.Stop.TheVariants as stop
use Rattle.sw_base.specs.declared.trouble.Trouble.TheVariants.{Memory}
use Rattle.lane_runner.specs.Forking.{Answer, stop_in}
use Rattle.lane_runner.specs.Handed.{AreFew, HandedEntry, LogPlace, TaskHands, TellStop}
use Rattle.region_runner.specs.Crew.{CrewValue, world_of}
use Rattle.region_runner.specs.Gathering.{ClosedValue, LaneGave, TookIn, answer_for}
use Rattle.lane_runner.specs.Lane.{LaneValue, stop_of, with_hand}
use Rattle.region_runner.specs.LastPhase.{WentOn}
use Rattle.region_runner.specs.Opening.{ClosesAs}
use Rattle.region_runner.specs.Stopping.{StopsTask}
use Rattle.region_runner.specs.Team.{DidWork}
use Rattle.region_runner.specs.declared.gathering.Verdict.{Verdict}

-- The root executed its only phase with this hand, put its End, if it went on so far, and its log was closed.
pub record RootClosed (crew : CrewValue) (items : List Item) (line : ℕ) (old new : HandValue View) (root : LaneValue) (c : ClosedValue) : Type 0 where
  pub after : LaneValue
  pub went : WentOn (world_of crew 0) items (Some line) (with_hand root old) after
  pub hand : new ≡ after.hand
  pub closes : ClosesAs (Ok after) c

-- how the root or a task below it stopped, once the root did this work
abbrev pub StopsRoot : Program → List Step → Stop → Work → Type 0
StopsRoot program path why work = StopsTask program.arrays [] path why (root_start program) (work ∷ [])

-- The root did this work, which its log has, or a prefix of it: where it went on, it put its End.
pub record RootGave (program : Program) (place : LogPlace) (old new : HandValue View) (c : ClosedValue) : Type 0 where
  pub work : Work
  pub did : DidWork program.arrays old new work
  pub path_is : c.path ≡ []
  pub gave : LaneGave place (work ∷ []) c
  pub runs : RunsTask program (root_start program) (work ∷ [])
  pub ends : c.halt ≡ None → c.refused ≡ None → LastIsEnd (work_records work)
  pub halts : (h : Halt) → c.halt ≡ Some h → StopsRoot program (stop_of [] h).0 (stop_of [] h).1 work
  pub few : c.halt ≡ None → c.refused ≡ None → AreFew c.below

-- it did, or nothing was done, since no memory was found
abbrev pub RanRoot : Program → LogPlace → HandValue View → HandValue View → Option ClosedValue → Type 0
RanRoot program place old new (Some c) = RootGave program place old new c
RanRoot program place old new None = new ≡ old

-- what the logs of the root and of the tasks below it are, and what the run answers
pub record SettledRoot (c : ClosedValue) (logs : List HandedEntry) (r : Answer) : Type 0 where
  pub verdict : Verdict
  pub took : TookIn c [] logs verdict
  pub answer : r ≡ answer_for verdict

abbrev pub IsSettled : Option ClosedValue → List HandedEntry → Answer → Type 0
IsSettled (Some c) logs r = SettledRoot c logs r
IsSettled None logs r = (logs ≡ []) × (r ≡ Err ([], stop.Trouble Memory))

-- The run of a kernel answers this: the root did this work, and the logs are those of all tasks, of which one stopped, if one did.
pub record RootRests (program : Program) (place : LogPlace) (old new : HandValue View) (logs : List HandedEntry) (r : Answer) : Type 0 where
  pub work : Work
  pub did : DidWork program.arrays old new work
  pub runs : RunsTask program (root_start program) (work ∷ [])
  pub hands : TaskHands place (stop_in r) [] (work ∷ []) logs
  pub tell : TellStop (stop_in r) logs
  pub ends : r ≡ Ok tt → LastIsEnd (work_records work)
  pub stops : (path : List Step) (why : Stop) → r ≡ Err (path, why) → StopsRoot program path why work
  pub few : r ≡ Ok tt → length logs ≤ max_rows
