use Rattle.std.proofs.Common.{◌≡◌, rules}
use Rattle.kernel_text.specs.declared.token.Sign.TheVariants as sign
use Rattle.kernel_text.specs.declared.token.Lexeme.TheVariants.{Mark}
use Rattle.kernel_text.proofs.Unfolding.{dots-takes}
use Rattle.kernel_text.proofs.judging.dots_move.Goals as goal

pub returns-in-Mark-Dots : goal.returns-in-Mark-Dots
returns-in-Mark-Dots c =
    let is : c.args.lexeme.now ≡ Mark sign.Dots = search rules in λ s a. rw is (dots-takes s a)
