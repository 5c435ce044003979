-- Regions that a lane forks: what it asks of who runs them, and what that gives.
use Rattle.std.specs.Prelude.{◌≡◌, ℕ, ◌+◌, ◌<◌, List, [], ◌∷◌, ◌++◌, ℤ, Some, None, Result, Ok, Err}
use Rattle.sw_base.specs.declared.environment.Log.{Ghosts}
use Rattle.sw_base.specs.declared.closed_log.ClosedLog.{ClosedLog}
use Rattle.sw_base.specs.declared.path.Step.{Step}
use denote.Ref.{Bor, MutBor}
use Rattle.std.specs.Global.{Vec}
use Rattle.event_buffer.specs.Buffered.{Buffered}
use Rattle.kernel_syntax.specs.declared.syntax.Array.{Array}
use Rattle.kernel_syntax.specs.declared.syntax.Team.{Team}
use Rattle.kernel_syntax.specs.Program.{Program, team_of}
use Rattle.kernel_syntax.specs.Tree.{TeamTree}
use Rattle.kernel_model.specs.State.{Fork}
use Rattle.shared_words.specs.declared.view.View.{View}
use Rattle.shared_words.specs.Handles.{HandValue, WordsValue, IsFree, with_view}
use Rattle.history_model.specs.Work.{Phases, lane_works}
use Rattle.history_model.specs.Did.{phase_splits, did_phases}
use Rattle.history_model.specs.Sound.{ArePhasesSound}
use Rattle.history_model.specs.Joined.{PhasesEnd, ArePhasesJoined}
use Rattle.execution_model.specs.Execution.{DrewSome}
use Rattle.execution_model.specs.Runs.{RunsTask, lane_begin, region_logs}
use Rattle.task_place.specs.declared.locals.Locals.{Locals}
use Rattle.lane_runner.specs.declared.stop.Stop.{Stop}
use Rattle.lane_runner.specs.Children.{AreNewLogs}
use Rattle.lane_runner.specs.Handed.{HandedEntry, HandsOn, MaybeStop, entries_of, log_place}
use Rattle.lane_runner.specs.Stopping.{StopsRegion}
use Rattle.execution_model.specs.Elements.{element_word, layout_of}
use Rattle.lane_runner.specs.World.{WorldValue}

-- a hand's view once all hands that it split off for the phases are home
abbrev pub after_phases : (ℕ → ℕ) → ℕ → Phases → View → View
after_phases word span phases v = record v { splits = v.splits + phase_splits phases; items = v.items ++ did_phases word v.name v.splits span phases }

-- what runs a region answers, if not Ok: the path of the task that stopped, and why
abbrev pub Answer : Type 0
Answer = Result (Unit {0}) (List Step × Stop)

-- how the region of this number of the task `at` ends, by what is answered: each lane has ended, or a task of the region stopped
abbrev pub EndsAs : List Array → List Step → ℕ → Fork → Phases → Answer → Type 0
EndsAs arrays at number fork phases (Ok _) = PhasesEnd phases
EndsAs arrays at number fork phases (Err stopped) = StopsRegion arrays at number stopped.0 stopped.1 fork phases

-- how the region stopped, if it did
abbrev pub stop_in : Answer → MaybeStop
stop_in (Ok _) = None
stop_in (Err stopped) = Some stopped

-- The lanes of a region of this team, that of this number of a task with this log, did these phases, from these locals at the fork,
-- ended by this answer, all their hands are home, and their logs are handed on.
pub record RanRegion (w : WorldValue) (team : TeamTree) (slots : List ℤ) (task : Buffered) (number : ℕ) (old new : HandValue View) (before after : List HandedEntry) (r : Answer) : Type 0 where
  pub phases : Phases
  pub sound : ArePhasesSound (layout_of w.arrays) team.span phases
  pub hand : new ≡ with_view old (after_phases (element_word w.arrays) team.span phases old.view)
  pub lanes : (program : Program) → program.arrays ≡ w.arrays → (lane : ℕ) → lane < team.span →
      RunsTask program (lane_begin (record { team = team; slots = slots }) lane) (lane_works lane phases)
  pub drawn : (program : Program) → program.arrays ≡ w.arrays → (loop : ℕ) → DrewSome (region_logs phases team.span) loop
  pub joined : ArePhasesJoined phases
  pub ends : EndsAs w.arrays task.path number (record { team = team; slots = slots }) phases r
  pub handed : HandsOn (log_place task) (stop_in r) task.path number (record { span = team.span; phases = phases } ∷ []) before after

-- the hand can split off those of a team: it holds no mutex, and all that were split from it are home
pub record IsReady (hand : HandValue View) (words : WordsValue) : Type 0 where
  pub free : IsFree hand words.table
  pub none_out : hand.view.out ≡ []

-- What a lane asks of the function that runs regions, for a region of this team of a task with this log: it may be called with each
-- hand that is ready, with the region's number among those of the task and with new logs for its lanes, and runs the region from
-- the locals given.
pub record RunsTeam {T : Type 0} (w : WorldValue) (accepts : MutBor (HandValue View) → Bor Locals → ℕ → Vec T → Bor Team → MutBor (Vec (ClosedLog T)) → Type 0)
    (gives : MutBor (HandValue View) → Bor Locals → ℕ → Vec T → Bor Team → MutBor (Vec (ClosedLog T)) → Answer → MutBor (HandValue View) → MutBor (Vec (ClosedLog T)) → Type 0)
    (seen : Ghosts T) (task : Buffered) (team : TeamTree) : Type 0 where
  pub accepted : (hand : MutBor (HandValue View)) (locals : Bor Locals) (number : ℕ) (logs : Vec T) (given : Bor Team) (done : MutBor (Vec (ClosedLog T))) → team_of given.now ≡ team
      → IsReady hand.now w.words → AreNewLogs seen task number team.span logs.items → accepts hand locals number logs given done
  pub ran : (hand after : MutBor (HandValue View)) (locals : Bor Locals) (number : ℕ) (logs : Vec T) (given : Bor Team) (done now_done : MutBor (Vec (ClosedLog T))) (r : Answer) → team_of given.now ≡ team
      → IsReady hand.now w.words → AreNewLogs seen task number team.span logs.items → gives hand locals number logs given done r after now_done
      → RanRegion w team locals.now.slots.items task number hand.now after.now (entries_of seen done.now.items) (entries_of seen now_done.now.items) r
