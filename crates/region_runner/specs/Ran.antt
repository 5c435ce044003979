-- What a lane did in the phases so far, as one task: a new hand in each phase, one log, one meaning.
use Rattle.std.specs.Prelude.{◌≡◌, ℕ, ◌+◌, ◌-◌, List, [], ◌∷◌, length, ℤ, Option, Some, None, Result, Ok, Err}
use Rattle.log_format.specs.Limit.{record_limit}
use Rattle.log_format.specs.declared.record.Kind.TheVariants as kind
use Rattle.kernel_syntax.specs.Program.{Program}
use Rattle.kernel_model.specs.declared.stop.StopWhy.TheVariants as reason
use Rattle.kernel_model.specs.State.{State, Fork, Outcome, after, event, put}
use Rattle.kernel_model.specs.Value.{Site}
use Rattle.kernel_model.specs.declared.phase.Item.{Item}
use Rattle.kernel_model.specs.Parts.{run_parts}
use Rattle.kernel_model.specs.Phases.{parts_in}
use Rattle.kernel_model.specs.Effect.{Finish, Returned, Halted, Makes}
use Rattle.history_model.specs.Work.{Work, Rest, then_work, work_regions}
use Rattle.execution_model.specs.Runs.{RunsRegions}
use Rattle.lane_runner.specs.declared.stop.Stop.TheVariants as stop
use Rattle.lane_runner.specs.declared.stop.Halt.{Halt}
use Rattle.lane_runner.specs.declared.stop.Halt.TheVariants as halt
use Rattle.lane_runner.specs.Drawing.{HasDrawn}
use Rattle.lane_runner.specs.Handed.{AreFew}
use Rattle.lane_runner.specs.Stopping.{HaveEnded}
use Rattle.lane_runner.specs.World.{WorldValue}
use Rattle.lane_runner.specs.Going.{Progress, GainsRecords, log_of, effect_of, HasReleased, ClosesAll, BeginsPart, Cause, AtLog, AtRegion, AtTasks, EndsBy, StopsBy, WorkHandsOn, stop_by, Refused}

-- what a task does of its team's phases: these, one after another, and then its End, if it puts one
abbrev pub task_part : Site → List (List Item) → Option ℕ → State → Outcome (Unit {0})
task_part at done None s = run_parts at (parts_in done) s
task_part at done (Some line) s = after (run_parts at (parts_in done) s) (put (event kind.End line 0 0))

-- the works of all phases as one
abbrev pub in_one : List Work → Work
in_one [] = Rest
in_one (work ∷ works) = then_work work (in_one works)

-- a new hand, and all else as the last phase left it
pub record TakesUp (mid start : Progress) : Type 0 where
  pub buffer : start.buffer ≡ mid.buffer
  pub tally : start.tally ≡ mid.tally
  pub done : start.done ≡ mid.done

-- the lane's log has gained the records of the work, and its counts the draws and the forks
pub record HasLogged (old new : Progress) (work : Work) : Type 0 where
  pub log : GainsRecords old.buffer new.buffer (log_of work)
  pub draws : HasDrawn old.tally new.tally (log_of work)
  pub forked : new.tally.forked ≡ old.tally.forked + length (work_regions work)

-- The task executed the part in these works, one a phase: it ends so and leaves these locals.
pub record TaskRan (w : WorldValue) (part : State → Outcome (Unit {0})) (slots slots' : List ℤ) (old new : Progress) (works : List Work) (finish : Finish (Unit {0})) : Type 0 where
  pub forks : List Fork
  pub own : List ℕ
  pub logged : HasLogged old new (in_one works)
  pub released : HasReleased [] (in_one works) own
  pub closes : ClosesAll finish own
  pub ended : HaveEnded (work_regions (in_one works))
  pub handed : WorkHandsOn None old new (in_one works)
  pub few : AreFew old.done → AreFew new.done
  pub unrefused : new.buffer.refused ≡ None
  pub makes : Makes part slots (record_limit - old.buffer.count) (effect_of slots' (in_one works) forks) finish
  pub regions : (program : Program) → program.arrays ≡ w.arrays → RunsRegions program forks (work_regions (in_one works))

-- The task executed the part in these works up to a record that its log, or a region that its lanes, didn't take.
pub record TaskBegan (w : WorldValue) (part : State → Outcome (Unit {0})) (slots : List ℤ) (old new : Progress) (works : List Work) (cause : Cause) : Type 0 where
  pub forks : List Fork
  pub own : List ℕ
  pub logged : HasLogged old new (in_one works)
  pub released : HasReleased [] (in_one works) own
  pub ends : EndsBy cause own (log_of (in_one works))
  pub stops : StopsBy w.arrays old new cause forks (work_regions (in_one works))
  pub handed : WorkHandsOn (stop_by cause) old new (in_one works)
  pub begins : BeginsPart part slots (record_limit - old.buffer.count) (log_of (in_one works)) forks
  pub regions : (program : Program) → program.arrays ≡ w.arrays → RunsRegions program forks (work_regions (in_one works))

-- how a task stands after these works, by what its last phase answered
abbrev pub TaskGoes : WorldValue → (State → Outcome (Unit {0})) → List ℤ → List ℤ → Progress → Progress → List Work → Result (Unit {0}) Halt → Type 0
TaskGoes w part slots slots' old new works (Ok _) = TaskRan w part slots slots' old new works (Returned tt)
TaskGoes w part slots slots' old new works (Err (halt.Own (stop.DivZero line))) = TaskRan w part slots slots' old new works (Halted reason.DivZero line)
TaskGoes w part slots slots' old new works (Err (halt.Own (stop.Index line))) = TaskRan w part slots slots' old new works (Halted reason.Index line)
TaskGoes w part slots slots' old new works (Err (halt.Own (stop.LogFull line))) = TaskRan w part slots slots' old new works (Halted reason.LogFull line)
TaskGoes w part slots slots' old new works (Err (halt.Region path why)) = TaskBegan w part slots old new works (AtRegion path why)
TaskGoes w part slots slots' old new works (Err (halt.Own (stop.Tasks line))) = TaskBegan w part slots old new works (AtTasks line)
TaskGoes w part slots slots' old new works (Err (halt.Own (stop.Trouble trouble))) = TaskBegan w part slots old new works AtLog × Refused trouble new
