use Rattle.std.proofs.Common.{◌≡◌, refl, ap, sym, ◌∙◌, subst, ℕ, ◌+◌, ◌<◌, ◌≤◌, List, [], ◌∷◌, ◌++◌, ℤ, pos, ◌+ℤ◌, w64, to_z, rules, arith}
use Rattle.std.specs.Prelude.{slice_set}
use Rattle.std.proofs.lemmas.Int.{to_z-of_z}
use Rattle.kernel_syntax.specs.declared.syntax.Stmt.{Stmt}
use Rattle.kernel_syntax.specs.Program.{code_of}
use Rattle.kernel_model.specs.Iterations.{total_of}
use Rattle.kernel_model.specs.Trace.{run}
use Rattle.serial_run.specs.declared.frame.Frame.TheVariants as frame
use Rattle.serial_run.specs.Stepping.{stand}
use Rattle.serial_run.proofs.Leading.{both_are, stepped_still, stepped_two}
use Rattle.serial_run.proofs.Loops.{past_steps, skip_steps, own_steps}
use Rattle.serial_run.proofs.lane.SerialLane.deal.Goals as goal

pub returns-then-next-total_of : goal.returns-then-next-total_of
returns-then-next-total_of c =
    let total = c.total_of.ensures.count ∙ both_are total_of c.args.from c.args.to c.ranges.from c.ranges.to in
    λ layout memory.
    let x = stand c.args.self.now memory in
    stepped_still x
    (past_steps x.at (code_of c.args.body.now.stmts.items) c.args.slot c.args.from c.args.chunk (total_of c.args.from c.args.to) c.args.next layout x.slots x.progress
    (subst (λ (n : ℕ). n ≤ c.args.next) total c.if-next-total_of.true))

pub returns-then-is_skipped : goal.returns-then-is_skipped
returns-then-is_skipped c =
    let total = c.total_of.ensures.count ∙ both_are total_of c.args.from c.args.to c.ranges.from c.ranges.to in
    let f = frame.Chunks c.args.body c.args.slot c.args.from c.args.to c.args.chunk (c.args.next + 1) in
    let pushed = c.in_ok-push.ensures.items ∙ both_are (λ (a b : ℤ). c.args.self.now.rest.items ++ frame.Chunks c.args.body c.args.slot a b c.args.chunk (c.args.next + 1) ∷ []) c.args.from c.args.to c.ranges.from c.ranges.to in
    λ layout memory.
    let x = stand c.args.self.now memory in
    record {
      at = refl;
      end = refl;
      pushed = f ∷ [];
      rest = pushed;
      steps =
          skip_steps x.at (code_of c.args.body.now.stmts.items) c.args.slot c.args.from c.args.chunk (total_of c.args.from c.args.to) c.args.next layout x.slots x.progress f
          (subst (λ (n : ℕ). c.args.next < n) total c.if-next-total_of.false) (λ s. refl) (sym c.is_skipped.ensures ∙ c.if-is_skipped.true);
    }

pub returns : goal.returns
returns c =
    let total = c.total_of.ensures.count ∙ both_are total_of c.args.from c.args.to c.ranges.from c.ranges.to in
    let f = frame.Chunks c.args.body c.args.slot c.args.from c.args.to c.args.chunk (c.args.next + 1) in
    let pushed = c.in_ok-push.ensures.items ∙ both_are (λ (a b : ℤ). c.args.self.now.rest.items ++ frame.Chunks c.args.body c.args.slot a b c.args.chunk (c.args.next + 1) ∷ []) c.args.from c.args.to c.ranges.from c.ranges.to in
    let g = frame.Statements c.as_slice.result in
    λ layout memory.
    let x = stand c.args.self.now memory in
    stepped_two x f g pushed c.in_ok-push-2.ensures.items
    (own_steps x.at (code_of c.args.body.now.stmts.items) c.args.slot c.args.from c.args.chunk (total_of c.args.from c.args.to) c.args.next layout x.slots x.progress f
    (subst (λ (n : ℕ). c.args.next < n) total c.if-next-total_of.false) (λ s. refl) c.set.new.self.slots.items g (sym c.is_skipped.ensures ∙ c.if-is_skipped.false)
    (c.set.ensures ∙ ap (λ (z : ℤ). slice_set x.slots c.args.slot z) (to_z-of_z w64 c.number_at.result (search rules) ∙ c.number_at.ensures ∙ ap (λ (z : ℤ). z +ℤ pos (c.args.next + 0)) (to_z-of_z w64 c.args.from c.ranges.from)
    ∙ ap (λ (k : ℕ). c.args.from +ℤ pos k) (let e : c.args.next + 0 ≡ c.args.next = omega arith in e)))
    (λ s. ap (λ (l : List Stmt). run x.at (code_of l) s) c.as_slice.ensures.value))
