-- What a lane may execute of statements that it may execute, and once it has gone on.
use Rattle.std.proofs.Common.{◌≡◌, ap, sym, subst, ℕ, List, ℤ}
use Rattle.std.specs.Prelude.{Some, slice_get}
use denote.Ref.{Bor, MutBor}
use Rattle.std.specs.Global.{Vec}
use Rattle.sw_base.specs.declared.environment.Log.{Ghosts}
use Rattle.sw_base.specs.declared.closed_log.ClosedLog.{ClosedLog}
use Rattle.kernel_syntax.specs.declared.syntax.Stmt.{Stmt}
use Rattle.kernel_syntax.specs.declared.syntax.Team.{Team}
use Rattle.kernel_syntax.specs.Program.{code_of, stmt_code}
use Rattle.kernel_syntax.specs.Tree.{Code, Done, Term, If, Loop}
use Rattle.kernel_model.specs.Effect.{Finish}
use Rattle.kernel_model.specs.State.{State, Outcome}
use Rattle.kernel_model.proofs.StmtLists.{bounded_at}
use Rattle.shared_words.specs.declared.view.View.{View}
use Rattle.shared_words.specs.Handles.{HandValue}
use Rattle.task_place.specs.declared.locals.Locals.{Locals}
use Rattle.lane_runner.specs.Alone.{IsAlone}
use Rattle.lane_runner.specs.Executing.{MayExecute}
use Rattle.lane_runner.specs.Forking.{Answer}
use Rattle.lane_runner.specs.Going.{IsSameLog, Made, Progress}
use Rattle.lane_runner.specs.Teams.{MayForkTeam}
use Rattle.lane_runner.specs.World.{WorldValue}
use Rattle.lane_runner.proofs.Parting.{alone_at, teams_at}
use Rattle.lane_runner.proofs.Teams.{teams_later}
use Rattle.lane_runner.proofs.Values.{can_follow}

module _ {T : Type 0} {w : WorldValue} {accepts : MutBor (HandValue View) → Bor Locals → ℕ → Vec T → Bor Team → MutBor (Vec (ClosedLog T)) → Type 0}
    {gives : MutBor (HandValue View) → Bor Locals → ℕ → Vec T → Bor Team → MutBor (Vec (ClosedLog T)) → Answer → MutBor (HandValue View) → MutBor (Vec (ClosedLog T)) → Type 0}
    {seen : Ghosts T} where
  pub executes_as : {p : Progress} {code code' : Code} → code ≡ code' → MayExecute w accepts gives seen p code → MayExecute w accepts gives seen p code'
  executes_as {p} is may = subst (MayExecute w accepts gives seen p) is may

  -- the same statements once it has executed others
  pub executes_later : {A : Type 0} {part : State → Outcome A} {slots slots' : List ℤ} {old new : Progress} {finish : Finish A} {code : Code} → Made w part slots slots' old new finish → IsSameLog old.buffer new.buffer
      → MayExecute w accepts gives seen old code → MayExecute w accepts gives seen new code
  executes_later {A} {part} {slots} {slots'} {old} {new} {finish} {code} made same may = record {
    can = can_follow w part slots slots' old new finish may.can made;
    bounded = may.bounded;
    alone = subst (λ (held : List ℕ). IsAlone w.words.locks held code) (sym (ap (λ (h : HandValue View). h.view.held) made.done.hand)) may.alone;
    runs = teams_later w accepts gives seen old.buffer new.buffer same code may.runs;
  }

  -- each statement of a list
  pub executes_at : {p : Progress} (stmts items : List Stmt) → items ≡ stmts → (k : ℕ) (x : Stmt) → slice_get items k ≡ Some x → MayExecute w accepts gives seen p (code_of stmts) → MayExecute w accepts gives seen p (stmt_code x Done)
  executes_at {p} stmts items is k x found may =
      let at = subst (λ (l : List Stmt). slice_get l k ≡ Some x) is found in
      record {
        can = may.can;
        bounded = bounded_at stmts k x at may.bounded;
        alone = alone_at w.words.locks p.hand.view.held stmts k x at may.alone;
        runs = teams_at (MayForkTeam w accepts gives seen p.buffer) stmts k x at may.runs;
      }

  -- the branches of a test
  pub executes_then : {p : Progress} {test : Term} {if_true if_false rest : Code} → MayExecute w accepts gives seen p (If test if_true if_false rest) → MayExecute w accepts gives seen p if_true
  executes_then may = record { can = may.can; bounded = may.bounded.1; alone = may.alone.0; runs = may.runs.0 }

  pub executes_else : {p : Progress} {test : Term} {if_true if_false rest : Code} → MayExecute w accepts gives seen p (If test if_true if_false rest) → MayExecute w accepts gives seen p if_false
  executes_else may = record { can = may.can; bounded = may.bounded.2; alone = may.alone.1; runs = may.runs.1 }

  -- a turn of a loop
  pub executes_turn : {p : Progress} {slot : ℕ} {from to : Term} {body rest : Code} → MayExecute w accepts gives seen p (Loop slot from to body rest) → MayExecute w accepts gives seen p body
  executes_turn may = record { can = may.can; bounded = may.bounded.2; alone = may.alone.0; runs = may.runs.0 }
