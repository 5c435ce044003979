-- What a lane relies on to execute statements.
use Rattle.std.specs.Prelude.{ℕ}
use denote.Ref.{Bor, MutBor}
use Rattle.std.specs.Global.{Vec}
use Rattle.sw_base.specs.declared.environment.Log.{Ghosts}
use Rattle.sw_base.specs.declared.closed_log.ClosedLog.{ClosedLog}
use Rattle.kernel_syntax.specs.declared.syntax.Team.{Team}
use Rattle.kernel_syntax.specs.Bounds.{IsBoundedCode}
use Rattle.kernel_syntax.specs.Tree.{Code}
use Rattle.shared_words.specs.declared.view.View.{View}
use Rattle.shared_words.specs.Handles.{HandValue}
use Rattle.task_place.specs.declared.locals.Locals.{Locals}
use Rattle.lane_runner.specs.Alone.{IsAlone}
use Rattle.lane_runner.specs.Forking.{Answer}
use Rattle.lane_runner.specs.Going.{CanGo, Progress}
use Rattle.lane_runner.specs.Teams.{EachTeam, MayForkTeam}
use Rattle.lane_runner.specs.World.{WorldValue}

-- It can go on. The statements are within the bounds of the language, and with the mutexes that it holds it may execute them alone. And
-- the function that is called runs each region that they fork.
pub record MayExecute {T : Type 0} (w : WorldValue) (accepts : MutBor (HandValue View) → Bor Locals → ℕ → Vec T → Bor Team → MutBor (Vec (ClosedLog T)) → Type 0)
    (gives : MutBor (HandValue View) → Bor Locals → ℕ → Vec T → Bor Team → MutBor (Vec (ClosedLog T)) → Answer → MutBor (HandValue View) → MutBor (Vec (ClosedLog T)) → Type 0)
    (seen : Ghosts T) (p : Progress) (code : Code) : Type 0 where
  pub can : CanGo w p
  pub bounded : IsBoundedCode code
  pub alone : IsAlone w.words.locks p.hand.view.held code
  pub runs : EachTeam (MayForkTeam w accepts gives seen p.buffer) code
