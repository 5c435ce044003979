-- The regions that the lanes of a phase fork.
use Rattle.std.proofs.Common.{◌≡◌, sym, subst, ℕ, List}
use denote.Ref.{Bor, MutBor}
use Rattle.std.specs.Prelude.{All}
use Rattle.std.specs.Global.{Vec}
use Rattle.sw_base.specs.declared.environment.Log.{Ghosts}
use Rattle.sw_base.specs.declared.closed_log.ClosedLog.{ClosedLog}
use Rattle.sw_base.specs.declared.path.Step.{Step}
use Rattle.event_buffer.specs.Buffered.{Buffered}
use Rattle.kernel_syntax.specs.declared.syntax.Team.{Team}
use Rattle.kernel_syntax.specs.Program.{stmt_code}
use Rattle.kernel_syntax.specs.Tree.{TeamTree, Done}
use Rattle.kernel_model.specs.declared.phase.Item.{Item}
use Rattle.kernel_model.specs.declared.phase.Item.TheVariants as item
use Rattle.shared_words.specs.declared.view.View.{View}
use Rattle.shared_words.specs.Handles.{HandValue}
use Rattle.task_place.specs.declared.locals.Locals.{Locals}
use Rattle.lane_runner.specs.Forking.{Answer}
use Rattle.lane_runner.specs.Teams.{EachTeamIn, MayForkTeam}
use Rattle.lane_runner.specs.World.{WorldValue}
use Rattle.lane_runner.proofs.Teams.{teams_all}
use Rattle.region_runner.specs.Lawful.{IsInnerTeam, IsLawfulPhase}
use Rattle.region_runner.proofs.LawfulPhases.{all_map}

item_forks : (P Q : TeamTree → Type 0) → ((team : TeamTree) → P team → Q team) → (x : Item) → EachTeamIn P x → EachTeamIn Q x
item_forks P Q each (item.Set slot value) h = tt
item_forks P Q each (item.Run stmt which) h = teams_all P Q each (stmt_code stmt.now Done) h
item_forks P Q each (item.Bar line) h = tt

-- who runs each inner team, runs those of a lawful phase
pub phase_forks : {T : Type 0} (w w' : WorldValue) (accepts : MutBor (HandValue View) → Bor Locals → ℕ → Vec T → Bor Team → MutBor (Vec (ClosedLog T)) → Type 0)
    (gives : MutBor (HandValue View) → Bor Locals → ℕ → Vec T → Bor Team → MutBor (Vec (ClosedLog T)) → Answer → MutBor (HandValue View) → MutBor (Vec (ClosedLog T)) → Type 0)
    (seen : Ghosts T) (task : Buffered) (mutexes regions : ℕ) (items : List Item) → w' ≡ w → IsLawfulPhase mutexes regions items → ((team : TeamTree) → IsInnerTeam mutexes regions team → MayForkTeam w accepts gives seen task team)
    → All (EachTeamIn (MayForkTeam w' accepts gives seen task)) items
phase_forks w w' accepts gives seen task mutexes regions items is lawful each =
    subst (λ (x : WorldValue). All (EachTeamIn (MayForkTeam x accepts gives seen task)) items) (sym is)
    (all_map (EachTeamIn (IsInnerTeam mutexes regions)) (EachTeamIn (MayForkTeam w accepts gives seen task)) (item_forks (IsInnerTeam mutexes regions) (MayForkTeam w accepts gives seen task) each) items lawful.teams)
