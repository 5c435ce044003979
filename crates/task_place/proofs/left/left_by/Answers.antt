use Rattle.std.proofs.Common.{◌≡◌, ◌∙◌, ap, sym, ℕ, ◌-◌, arith}
use Rattle.kernel_syntax.specs.Program.{term_of}
use Rattle.task_place.specs.Operands.{left_by}
use Rattle.task_place.proofs.Operands.{left-none}
use Rattle.task_place.proofs.left.left_by.Goals as goal

pub returns : goal.returns
returns c =
    let past = c.down-test.false in
    let none : c.args.levels - c.down.counter ≡ 0 = omega (arith, past) in
    sym (left-none (term_of c.down.operand.now)) ∙ ap (λ (n : ℕ). left_by (term_of c.down.operand.now) n) (sym none) ∙ c.down.invariant
