use Rattle.std.proofs.Common.{◌≡◌, rules}
use Rattle.kernel_text.specs.declared.token.Sign.TheVariants as sign
use Rattle.kernel_text.specs.declared.token.Lexeme.TheVariants.{Mark}
use Rattle.kernel_text.proofs.Unfolding.{close_bracket-takes}
use Rattle.kernel_text.proofs.judging.close_bracket_move.Goals as goal

pub returns-in-Mark-CloseBracket : goal.returns-in-Mark-CloseBracket
returns-in-Mark-CloseBracket c =
    let is : c.args.lexeme.now ≡ Mark sign.CloseBracket = search rules in λ s a. rw is (close_bracket-takes s a)
