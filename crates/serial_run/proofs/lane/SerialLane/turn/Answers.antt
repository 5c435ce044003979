use Rattle.std.proofs.Common.{◌≡◌, ap, sym, ◌∙◌, subst, ℕ, suc, List, [], ◌∷◌, ◌++◌, ℤ, pos, ◌+ℤ◌, w64, to_z, of_z, rules}
use Rattle.std.specs.Prelude.{slice_set}
use Rattle.std.proofs.lemmas.Int.{to_z-of_z}
use Rattle.kernel_syntax.specs.declared.syntax.Stmt.{Stmt}
use Rattle.kernel_syntax.specs.Program.{code_of}
use Rattle.kernel_model.specs.Drawing.{turn_from}
use Rattle.kernel_model.specs.Iterations.{total_of}
use Rattle.kernel_model.specs.State.{after}
use Rattle.kernel_model.specs.Trace.{run, turns}
use Rattle.serial_run.specs.declared.frame.Frame.TheVariants as frame
use Rattle.serial_run.specs.Stepping.{stand}
use Rattle.serial_run.proofs.Leading.{steps_push, both_are, stepped_still, stepped_two}
use Rattle.serial_run.proofs.Loops.{turn_steps}
use Rattle.serial_run.proofs.lane.SerialLane.turn.Goals as goal

pub returns-then-is_past : goal.returns-then-is_past
returns-then-is_past c =
    let next_is = to_z-of_z w64 c.args.next c.ranges.next in
    let end_is = to_z-of_z w64 c.args.end c.ranges.end in
    let none : total_of c.args.next c.args.end ≡ 0 =
    ap (λ (z : ℤ). total_of z c.args.end) (sym next_is) ∙ ap (λ (z : ℤ). total_of (to_z w64 (of_z w64 c.args.next)) z) (sym end_is) ∙ c.is_past.ensures.past (search (rules, c.if-is_past.true)) in
    λ layout memory.
    let x = stand c.args.self.now memory in
    stepped_still x
    (steps_push layout x.at (λ s. turns (total_of c.args.next c.args.end) 0 (turn_from x.at (code_of c.args.body.now.stmts.items) c.args.slot c.args.next) s) x.slots x.progress []
    (λ then' s. ap (λ (n : ℕ). after (turns n 0 (turn_from x.at (code_of c.args.body.now.stmts.items) c.args.slot c.args.next) s) then') none))

pub returns : goal.returns
returns c =
    let next_is = to_z-of_z w64 c.args.next c.ranges.next in
    let end_is = to_z-of_z w64 c.args.end c.ranges.end in
    let body = code_of c.args.body.now.stmts.items in
    let more = (c.is_past.ensures.more (search (rules, c.if-is_past.false))).0 in
    let more_is : total_of c.args.next c.args.end ≡ suc (total_of (c.args.next +ℤ pos 1) c.args.end) =
    subst (λ (z : ℤ). total_of z c.args.end ≡ suc (total_of (z +ℤ pos 1) c.args.end)) next_is
    (subst (λ (z : ℤ). total_of (to_z w64 (of_z w64 c.args.next)) z ≡ suc (total_of (to_z w64 (of_z w64 c.args.next) +ℤ pos 1) z)) end_is more) in
    let f = frame.Turns c.args.body c.args.slot c.value_after-later.result c.args.end in
    let g = frame.Statements c.as_slice.result in
    let pushed = c.in_ok-push.ensures.items ∙ both_are (λ (a b : ℤ). c.args.self.now.rest.items ++ frame.Turns c.args.body c.args.slot a b ∷ []) c.value_after-later.result c.args.end (search rules) c.ranges.end in
    let next_after : c.value_after-later.result ≡ c.args.next +ℤ pos 1 = c.value_after-later.ensures ∙ ap (λ (z : ℤ). z +ℤ pos 1) next_is in
    λ layout memory.
    let x = stand c.args.self.now memory in
    stepped_two x f g pushed c.in_ok-push-2.ensures.items
    (turn_steps x.at body c.args.slot layout x.slots c.set.new.self.slots.items x.progress c.args.next c.args.end f g
    (c.set.ensures ∙ ap (λ (z : ℤ). slice_set x.slots c.args.slot z) next_is) more_is (λ s. ap (λ (z : ℤ). turns (total_of z c.args.end) 0 (turn_from x.at body c.args.slot z) s) next_after) (λ s. ap (λ (l : List Stmt). run x.at (code_of l) s) c.as_slice.ensures.value))
