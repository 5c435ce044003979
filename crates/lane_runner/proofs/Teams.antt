-- What is asked for the regions of statements, of some of them and as a lane goes on.
use Rattle.std.proofs.Common.{◌≡◌, sym, subst, ℕ, ◌<◌, List, [], ◌∷◌}
use Rattle.std.specs.Prelude.{All, length}
use denote.Ref.{Bor, MutBor}
use Rattle.std.specs.Global.{Vec}
use Rattle.sw_base.specs.declared.environment.Log.{Ghosts}
use Rattle.sw_base.specs.declared.path.Step.{Step}
use Rattle.sw_base.specs.declared.closed_log.ClosedLog.{ClosedLog}
use Rattle.event_buffer.specs.Buffered.{Buffered}
use Rattle.kernel_syntax.specs.declared.syntax.Team.{Team}
use Rattle.kernel_syntax.specs.Program.{stmt_code}
use Rattle.kernel_syntax.specs.Tree.{TeamTree, Code, Done, Set, Store, Update, If, Loop, Parallel, For, Barrier, Critical}
use Rattle.kernel_model.specs.declared.phase.Item.{Item}
use Rattle.kernel_model.specs.declared.phase.Item.TheVariants as item
use Rattle.shared_words.specs.declared.view.View.{View}
use Rattle.shared_words.specs.Handles.{HandValue}
use Rattle.task_place.specs.declared.locals.Locals.{Locals}
use Rattle.lane_runner.specs.Forking.{Answer, EndsAs, stop_in, RunsTeam}
use Rattle.lane_runner.specs.Handed.{HandsOn, LogPlace, entries_of, log_place}
use Rattle.lane_runner.specs.Going.{IsSameLog}
use Rattle.lane_runner.specs.Teams.{EachTeam, EachTeamIn, MayForkTeam}
use Rattle.lane_runner.specs.World.{WorldValue}
use Rattle.lane_runner.proofs.NewLogs.{new_logs_later}
use Rattle.lane_runner.proofs.Phases.{IsItemAt, item_has}

pub teams_all : (P Q : TeamTree → Type 0) → ((team : TeamTree) → P team → Q team) → (code : Code) → EachTeam P code → EachTeam Q code
teams_all P Q each Done all = tt
teams_all P Q each (Set slot value rest) all = teams_all P Q each rest all
teams_all P Q each (Store array index value line site rest) all = teams_all P Q each rest all
teams_all P Q each (Update array index value minus line site rest) all = teams_all P Q each rest all
teams_all P Q each (If test if_true if_false rest) all = (teams_all P Q each if_true all.0, teams_all P Q each if_false all.1, teams_all P Q each rest all.2)
teams_all P Q each (Loop slot from to body rest) all = (teams_all P Q each body all.0, teams_all P Q each rest all.1)
teams_all P Q each (Parallel span line end body rest) all = (each (record { span = span; line = line; end = end; body = body }) all.0, teams_all P Q each rest all.1)
teams_all P Q each (For slot from to schedule nowait line end body rest) all = (teams_all P Q each body all.0, teams_all P Q each rest all.1)
teams_all P Q each (Barrier line rest) all = teams_all P Q each rest all
teams_all P Q each (Critical mutex line end body rest) all = (teams_all P Q each body all.0, teams_all P Q each rest all.1)

module _ {T : Type 0} (w : WorldValue) (accepts : MutBor (HandValue View) → Bor Locals → ℕ → Vec T → Bor Team → MutBor (Vec (ClosedLog T)) → Type 0)
    (gives : MutBor (HandValue View) → Bor Locals → ℕ → Vec T → Bor Team → MutBor (Vec (ClosedLog T)) → Answer → MutBor (HandValue View) → MutBor (Vec (ClosedLog T)) → Type 0)
    (seen : Ghosts T) (old : Buffered) where
  pub teams_of : {code code' : Code} → code ≡ code' → EachTeam (MayForkTeam w accepts gives seen old) code → EachTeam (MayForkTeam w accepts gives seen old) code'
  teams_of is all = subst (EachTeam (MayForkTeam w accepts gives seen old)) is all

  pub teams_of_item : {this that : Item} → this ≡ that → EachTeamIn (MayForkTeam w accepts gives seen old) this → EachTeamIn (MayForkTeam w accepts gives seen old) that
  teams_of_item is all = subst (EachTeamIn (MayForkTeam w accepts gives seen old)) is all

  pub team_of_region : {code : Code} {span line end : ℕ} {body rest : Code} → code ≡ Parallel span line end body rest → EachTeam (MayForkTeam w accepts gives seen old) code
      → MayForkTeam w accepts gives seen old (record { span = span; line = line; end = end; body = body })
  team_of_region is all = (subst (EachTeam (MayForkTeam w accepts gives seen old)) is all).0

  module _ (mid : Buffered) (same : IsSameLog old mid) where
    place_same : log_place mid ≡ log_place old
    place_same = λ i. record { dir = same.dir i; size = same.size i; tells = same.tells i }

    runs_later : (team : TeamTree) → RunsTeam w accepts gives seen old team → RunsTeam w accepts gives seen mid team
    runs_later team runs = record {
      accepted = λ hand locals number logs given done is ready new. runs.accepted hand locals number logs given done is ready (new_logs_later seen old mid number team.span logs.items same new);
      ran = λ hand after locals number logs given done now_done r is ready new gave.
          let ran = runs.ran hand after locals number logs given done now_done r is ready (new_logs_later seen old mid number team.span logs.items same new) gave in
          record {
            phases = ran.phases;
            sound = ran.sound;
            hand = ran.hand;
            lanes = ran.lanes;
            drawn = ran.drawn;
            joined = ran.joined;
            ends = subst (λ (at : List Step). EndsAs w.arrays at number (record { team = team; slots = locals.now.slots.items }) ran.phases r) (sym same.path) ran.ends;
            handed =
                subst (λ (at : List Step). HandsOn (log_place mid) (stop_in r) at number (record { span = team.span; phases = ran.phases } ∷ []) (entries_of seen done.now.items) (entries_of seen now_done.now.items)) (sym same.path)
                (subst (λ (place : LogPlace). HandsOn place (stop_in r) old.path number (record { span = team.span; phases = ran.phases } ∷ []) (entries_of seen done.now.items) (entries_of seen now_done.now.items)) (sym place_same) ran.handed);
          };
    }

    may_fork_later : (team : TeamTree) → MayForkTeam w accepts gives seen old team → MayForkTeam w accepts gives seen mid team
    may_fork_later team may = record {
      path = subst (λ (at : List Step). length at < 4) (sym same.path) may.path;
      runs = runs_later team may.runs;
    }

    -- whose log has taken more may fork the same regions
    pub teams_later : (code : Code) → EachTeam (MayForkTeam w accepts gives seen old) code → EachTeam (MayForkTeam w accepts gives seen mid) code
    teams_later = teams_all (MayForkTeam w accepts gives seen old) (MayForkTeam w accepts gives seen mid) may_fork_later

    -- and those of an item
    teams_of_item_later : (x : Item) → EachTeamIn (MayForkTeam w accepts gives seen old) x → EachTeamIn (MayForkTeam w accepts gives seen mid) x
    teams_of_item_later (item.Set slot value) all = tt
    teams_of_item_later (item.Run stmt which) all = teams_later (stmt_code stmt.now Done) all
    teams_of_item_later (item.Bar line) all = tt

    pub teams_of_item_at : (items : List Item) (i : ℕ) (x : Item) → IsItemAt items i x → All (EachTeamIn (MayForkTeam w accepts gives seen old)) items → EachTeamIn (MayForkTeam w accepts gives seen mid) x
    teams_of_item_at items i x this all = teams_of_item_later x (item_has items i x this (EachTeamIn (MayForkTeam w accepts gives seen old)) all)
