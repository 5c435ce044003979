use Rattle.std.proofs.Common.{List, ◌∙◌, ◌∷◌, ap, true, sym, subst}
use Rattle.kernel_text.specs.declared.judging.Want.{Want}
use Rattle.kernel_text.specs.declared.judging.Want.TheVariants as want
use Rattle.kernel_text.specs.Wanting.{stack_of, AreDelimited, Moves}
use Rattle.kernel_text.proofs.Moving.{stack_of-push, as-terms}
use Rattle.kernel_text.proofs.UnfoldingOperators.{expr-apart}
use Rattle.kernel_text.proofs.judging.expr_move.Goals as goal

pub operand_move-requires : goal.operand_move-requires
operand_move-requires c =
    let top = ap stack_of c.in_ok-push.ensures.items ∙ stack_of-push c.args.stack.now.items (want.Operators c.args.level true) in
    subst (λ (s : List Want). AreDelimited (want.Operand c.args.level ∷ s)) (sym top) (expr-apart c.args.level (stack_of c.args.stack.now.items) c.requires)

pub returns : goal.returns
returns c =
    let top = ap stack_of c.in_ok-push.ensures.items ∙ stack_of-push c.args.stack.now.items (want.Operators c.args.level true) in
    as-terms c.operand_move.result c.args.level c.args.lexeme.now (stack_of c.args.stack.now.items) (stack_of c.operand_move.new.stack.items)
    (subst (λ (s : List Want). Moves c.operand_move.result (want.Operand c.args.level) c.args.lexeme.now s (stack_of c.operand_move.new.stack.items)) top c.operand_move.ensures)
