use Rattle.std.proofs.Common.{◌≡◌, rules}
use Rattle.kernel_text.specs.declared.token.Sign.TheVariants as sign
use Rattle.kernel_text.specs.declared.token.Lexeme.TheVariants.{Mark}
use Rattle.kernel_text.proofs.Unfolding.{close_brace-takes}
use Rattle.kernel_text.proofs.judging.close_brace_move.Goals as goal

pub returns-in-Mark-CloseBrace : goal.returns-in-Mark-CloseBrace
returns-in-Mark-CloseBrace c =
    let is : c.args.lexeme.now ≡ Mark sign.CloseBrace = search rules in λ s a. rw is (close_brace-takes s a)
