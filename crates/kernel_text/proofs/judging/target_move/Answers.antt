use Rattle.std.proofs.Common.{◌≡◌, rules, arith}
use Rattle.kernel_text.specs.declared.token.Sign.TheVariants as sign
use Rattle.kernel_text.specs.declared.token.Lexeme.TheVariants.{Mark}
use Rattle.kernel_text.specs.Wanting.{stack_of}
use Rattle.kernel_text.proofs.Moving.{wanted}
use Rattle.kernel_text.proofs.UnfoldingExprs.{target-assign, target-index}
use Rattle.kernel_text.proofs.judging.target_move.Goals as goal

pub returns-in-Mark-Assign : goal.returns-in-Mark-Assign
returns-in-Mark-Assign c =
    let is : c.args.lexeme.now ≡ Mark sign.Assign = search rules in rw is (0, omega arith, target-assign (stack_of c.args.stack.now.items) c.requires)

pub returns-in-Mark-OpenBracket : goal.returns-in-Mark-OpenBracket
returns-in-Mark-OpenBracket c =
    let is : c.args.lexeme.now ≡ Mark sign.OpenBracket = search rules in rw is (wanted c.want_all.result _ _ _ _ _ (target-index (stack_of c.args.stack.now.items) c.requires) c.want_all.ensures)
