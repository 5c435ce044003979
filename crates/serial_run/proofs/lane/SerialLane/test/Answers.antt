use Rattle.std.proofs.Common.{refl, ap, sym, ◌∙◌, List, [], ◌∷◌, w64, rules}
use Rattle.std.proofs.lemmas.Result.{err_from_is_err_and}
use Rattle.std.proofs.lemmas.Int.{to_z-of_z}
use Rattle.kernel_syntax.specs.declared.syntax.Body.{Body}
use Rattle.kernel_syntax.specs.declared.syntax.Stmt.{Stmt}
use Rattle.kernel_syntax.specs.Program.{term_of, code_of}
use Rattle.kernel_syntax.specs.Tree as tree
use Rattle.kernel_syntax.specs.Tree.{Done}
use Rattle.kernel_model.specs.Trace.{run}
use Rattle.serial_run.specs.declared.frame.Frame.TheVariants as frame
use Rattle.serial_run.specs.Going.{serial_progress}
use Rattle.serial_run.specs.Stepping.{stand}
use Rattle.serial_run.proofs.Leading.{halts_goes}
use Rattle.serial_run.proofs.Statements.{test_stops, test_steps}
use Rattle.serial_run.proofs.lane.SerialLane.test.Goals as goal

pub returns-in_err-number : goal.returns-in_err-number
returns-in_err-number c =
    let p = err_from_is_err_and c.from_residual.result c.from_residual.ensures.1 in
    let x = stand c.args.self.now c.args.memory.now in
    let new = serial_progress c.value.new.self c.value.new.memory in
    λ layout tells. rw (p.1, p.2)
    (halts_goes layout (run x.at (tree.If (term_of c.args.test.now) (code_of c.args.if_true.now.stmts.items) (code_of c.args.if_false.now.stmts.items) Done)) x (record x { progress = new }) c.in_err-number.field-0.0
    (test_stops layout x.at x.slots (term_of c.args.test.now) (code_of c.args.if_true.now.stmts.items) (code_of c.args.if_false.now.stmts.items) x.progress new c.in_err-number.field-0.0 (c.in_err-number.ensures layout tells)))

pub returns : goal.returns
returns c =
    let x = stand c.args.self.now c.args.memory.now in
    let new = serial_progress c.value.new.self c.value.new.memory in
    let v = c.in_ok-number.number in
    let is = to_z-of_z w64 v (search rules) in
    let f = frame.Statements c.as_slice.result in
    let code = code_of c.chosen-body.result.now.stmts.items in
    λ layout tells. record {
      at = refl;
      end = refl;
      pushed = f ∷ [];
      rest = c.in_ok-push.ensures.items;
      steps =
          test_steps layout x.at x.slots (term_of c.args.test.now) (code_of c.args.if_true.now.stmts.items) (code_of c.args.if_false.now.stmts.items) x.progress new v f code
          (λ s. ap (λ (l : List Stmt). run x.at (code_of l) s) c.as_slice.ensures.value)
          (λ zero. ap (λ (b : Body). code_of b.stmts.items) (c.chosen-body.ensures.zero (is ∙ zero)))
          (λ other. ap (λ (b : Body). code_of b.stmts.items) (c.chosen-body.ensures.other (λ zero. other (sym is ∙ zero))))
          (c.in_ok-number.ensures layout tells);
    }
