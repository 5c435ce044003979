use Rattle.std.proofs.Common.{◌≡◌, rules}
use Rattle.kernel_text.specs.declared.token.Sign.TheVariants as sign
use Rattle.kernel_text.specs.declared.token.Lexeme.TheVariants.{Mark}
use Rattle.kernel_text.proofs.Unfolding.{open_bracket-takes}
use Rattle.kernel_text.proofs.judging.open_bracket_move.Goals as goal

pub returns-in-Mark-OpenBracket : goal.returns-in-Mark-OpenBracket
returns-in-Mark-OpenBracket c =
    let is : c.args.lexeme.now ≡ Mark sign.OpenBracket = search rules in λ s a. rw is (open_bracket-takes s a)
