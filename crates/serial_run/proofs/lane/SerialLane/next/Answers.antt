use Rattle.std.proofs.Common.{◌≡◌, refl, ap, ◌∙◌, List, [], ◌∷◌, length, arith}
use Rattle.kernel_syntax.specs.declared.syntax.Stmt.{Stmt}
use Rattle.kernel_syntax.specs.Program.{code_of, stmt_code}
use Rattle.kernel_syntax.specs.Tree.{Done}
use Rattle.kernel_model.specs.State.{after}
use Rattle.kernel_model.specs.Trace.{run}
use Rattle.kernel_model.proofs.Equations.{run-Done}
use Rattle.kernel_model.proofs.Joining.{run-first}
use Rattle.serial_run.specs.declared.frame.Frame.{Frame}
use Rattle.serial_run.specs.declared.frame.Frame.TheVariants as frame
use Rattle.serial_run.specs.Stepping.{stand}
use Rattle.serial_run.proofs.Leading.{steps_push, stepped_still}
use Rattle.serial_run.proofs.Statements.{takes_first, takes_same}
use Rattle.serial_run.proofs.lane.SerialLane.next.Goals as goal

no_items : (xs : List Stmt) → length xs ≡ 0 → xs ≡ []
no_items [] none = refl
no_items (x ∷ xs) none = absurd (omega (arith, none))

pub returns-in_default : goal.returns-in_default
returns-in_default c =
    let none = no_items c.args.stmts.now c.in_default.ensures.cases in
    let x = stand c.args.self.now c.args.memory.now in
    λ layout tells. stepped_still x
    (steps_push layout x.at (run x.at (code_of c.args.stmts.now)) x.slots x.progress []
    (λ then' s. ap (λ (l : List Stmt). after (run x.at (code_of l) s) then') none ∙ ap (λ o. after o then') (run-Done x.at s)))

pub returns : goal.returns
returns c =
    let is = c.in-Some.ensures.cases.0 in
    let x = stand c.args.self.now c.args.memory.now in
    let first = run x.at (stmt_code c.in-Some.first.now Done) in
    let others = run x.at (code_of c.in-Some.others.now) in
    let f = frame.Statements c.in-Some.others in
    let mid = record x { rest = c.push.new.self.items } in
    let new = stand c.statement.new.self c.statement.new.memory in
    λ layout tells.
    takes_same layout (λ s. after (first s) others) (run x.at (code_of c.args.stmts.now))
    (λ s. ap (λ (l : List Stmt). run x.at (code_of l) s) is ∙ run-first x.at c.in-Some.first.now (code_of c.in-Some.others.now) s) x new c.statement.result
    (takes_first layout x.at first others f x mid new c.statement.result (λ s. refl) refl (ap (λ (l : List Frame). record x { rest = l }) c.in_ok-push.ensures.items) (c.statement.ensures layout tells))
