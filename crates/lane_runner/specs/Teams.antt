-- The regions that statements fork, and what is asked for each.
use Rattle.std.specs.Prelude.{ℕ, ◌<◌, length}
use denote.Ref.{Bor, MutBor}
use Rattle.std.specs.Global.{Vec}
use Rattle.sw_base.specs.declared.environment.Log.{Ghosts}
use Rattle.sw_base.specs.declared.closed_log.ClosedLog.{ClosedLog}
use Rattle.event_buffer.specs.Buffered.{Buffered}
use Rattle.kernel_syntax.specs.declared.syntax.Team.{Team}
use Rattle.kernel_syntax.specs.Program.{stmt_code}
use Rattle.kernel_syntax.specs.Tree.{TeamTree, Code, Done, Set, Store, Update, If, Loop, Parallel, For, Barrier, Critical}
use Rattle.kernel_model.specs.declared.phase.Item.{Item}
use Rattle.kernel_model.specs.declared.phase.Item.TheVariants as item
use Rattle.shared_words.specs.declared.view.View.{View}
use Rattle.shared_words.specs.Handles.{HandValue}
use Rattle.task_place.specs.declared.locals.Locals.{Locals}
use Rattle.lane_runner.specs.Forking.{Answer, RunsTeam}
use Rattle.lane_runner.specs.World.{WorldValue}

-- this holds of the team of each region that who executes these statements forks; the regions in such a region are those of its lanes
abbrev pub EachTeam : (TeamTree → Type 0) → Code → Type 0
EachTeam P Done = Unit {0}
EachTeam P (Set slot value rest) = EachTeam P rest
EachTeam P (Store array index value line site rest) = EachTeam P rest
EachTeam P (Update array index value minus line site rest) = EachTeam P rest
EachTeam P (If test if_true if_false rest) = EachTeam P if_true × EachTeam P if_false × EachTeam P rest
EachTeam P (Loop slot from to body rest) = EachTeam P body × EachTeam P rest
EachTeam P (Parallel span line end body rest) = P (record { span = span; line = line; end = end; body = body }) × EachTeam P rest
EachTeam P (For slot from to schedule nowait line end body rest) = EachTeam P body × EachTeam P rest
EachTeam P (Barrier line rest) = EachTeam P rest
EachTeam P (Critical mutex line end body rest) = EachTeam P body × EachTeam P rest

-- and of each that who executes this item of a phase forks
abbrev pub EachTeamIn : (TeamTree → Type 0) → Item → Type 0
EachTeamIn P (item.Run stmt which) = EachTeam P (stmt_code stmt.now Done)
EachTeamIn P _ = Unit {0}

-- a task with this log may fork a region of this team: it isn't too deep for one, and the function that is called runs it
pub record MayForkTeam {T : Type 0} (w : WorldValue) (accepts : MutBor (HandValue View) → Bor Locals → ℕ → Vec T → Bor Team → MutBor (Vec (ClosedLog T)) → Type 0)
    (gives : MutBor (HandValue View) → Bor Locals → ℕ → Vec T → Bor Team → MutBor (Vec (ClosedLog T)) → Answer → MutBor (HandValue View) → MutBor (Vec (ClosedLog T)) → Type 0)
    (seen : Ghosts T) (task : Buffered) (team : TeamTree) : Type 0 where
  pub path : length task.path < 4
  pub runs : RunsTeam w accepts gives seen task team
