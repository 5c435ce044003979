use Rattle.std.proofs.Common.{refl, ap, ◌∙◌, [], ◌∷◌, ◌++◌, ℤ, w64, to_z, of_z, rules}
use Rattle.std.proofs.lemmas.Result.{err_from_is_err_and}
use Rattle.std.proofs.lemmas.Int.{to_z-of_z}
use Rattle.kernel_syntax.specs.Program.{term_of, code_of}
use Rattle.kernel_syntax.specs.Tree as tree
use Rattle.kernel_syntax.specs.Tree.{Done}
use Rattle.kernel_model.specs.Trace.{run}
use Rattle.serial_run.specs.declared.frame.Frame.TheVariants as frame
use Rattle.serial_run.specs.Going.{serial_progress}
use Rattle.serial_run.specs.Stepping.{stand}
use Rattle.serial_run.proofs.Leading.{halts_goes}
use Rattle.serial_run.proofs.Statements.{from_stops, to_stops, loop_steps}
use Rattle.serial_run.proofs.lane.SerialLane.begin.Goals as goal

pub returns-in_err-next : goal.returns-in_err-next
returns-in_err-next c =
    let p = err_from_is_err_and c.from_residual.result c.from_residual.ensures.1 in
    let x = stand c.args.self.now c.args.memory.now in
    let mid = serial_progress c.value.new.self c.value.new.memory in
    λ layout tells. rw (p.1, p.2)
    (halts_goes layout (run x.at (tree.Loop c.args.slot (term_of c.args.from.now) (term_of c.args.to.now) (code_of c.args.body.now.stmts.items) Done)) x (record x { progress = mid }) c.in_err-next.field-0.0
    (from_stops layout x.at x.slots c.args.slot (term_of c.args.from.now) (term_of c.args.to.now) (code_of c.args.body.now.stmts.items) x.progress mid c.in_err-next.field-0.0 (c.in_err-next.ensures layout tells)))

pub returns-in_err-end : goal.returns-in_err-end
returns-in_err-end c =
    let p = err_from_is_err_and c.from_residual-in_err-end.result c.from_residual-in_err-end.ensures.1 in
    let x = stand c.args.self.now c.args.memory.now in
    let mid = serial_progress c.value.new.self c.value.new.memory in
    let new = serial_progress c.value-2.new.self c.value-2.new.memory in
    λ layout tells. rw (p.1, p.2)
    (halts_goes layout (run x.at (tree.Loop c.args.slot (term_of c.args.from.now) (term_of c.args.to.now) (code_of c.args.body.now.stmts.items) Done)) x (record x { progress = new }) c.in_err-end.field-0.0
    (to_stops layout x.at x.slots c.args.slot (term_of c.args.from.now) (term_of c.args.to.now) (code_of c.args.body.now.stmts.items) x.progress mid new c.in_ok-next.next (c.in_ok-next.ensures layout tells) c.in_err-end.field-0.0 (c.in_err-end.ensures layout tells)))

pub returns : goal.returns
returns c =
    let x = stand c.args.self.now c.args.memory.now in
    let mid = serial_progress c.value.new.self c.value.new.memory in
    let new = serial_progress c.value-2.new.self c.value-2.new.memory in
    λ layout tells. record {
      at = refl;
      end = refl;
      pushed = frame.Turns c.args.body c.args.slot c.in_ok-next.next c.in_ok-end.end ∷ [];
      rest =
          c.in_ok-push.ensures.items
          ∙ ap (λ (z : ℤ). x.rest ++ frame.Turns c.args.body c.args.slot z (to_z w64 (of_z w64 c.in_ok-end.end)) ∷ []) (to_z-of_z w64 c.in_ok-next.next (search rules))
          ∙ ap (λ (z : ℤ). x.rest ++ frame.Turns c.args.body c.args.slot c.in_ok-next.next z ∷ []) (to_z-of_z w64 c.in_ok-end.end (search rules));
      steps =
          loop_steps layout x.at x.slots c.args.slot (term_of c.args.from.now) (term_of c.args.to.now) (code_of c.args.body.now.stmts.items) x.progress mid new c.in_ok-next.next (c.in_ok-next.ensures layout tells)
          c.in_ok-end.end (frame.Turns c.args.body c.args.slot c.in_ok-next.next c.in_ok-end.end) (λ s. refl) (c.in_ok-end.ensures layout tells);
    }
