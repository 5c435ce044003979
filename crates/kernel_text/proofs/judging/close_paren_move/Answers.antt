use Rattle.std.proofs.Common.{◌≡◌, rules}
use Rattle.kernel_text.specs.declared.token.Sign.TheVariants as sign
use Rattle.kernel_text.specs.declared.token.Lexeme.TheVariants.{Mark}
use Rattle.kernel_text.proofs.Unfolding.{close_paren-takes}
use Rattle.kernel_text.proofs.judging.close_paren_move.Goals as goal

pub returns-in-Mark-CloseParen : goal.returns-in-Mark-CloseParen
returns-in-Mark-CloseParen c =
    let is : c.args.lexeme.now ≡ Mark sign.CloseParen = search rules in λ s a. rw is (close_paren-takes s a)
