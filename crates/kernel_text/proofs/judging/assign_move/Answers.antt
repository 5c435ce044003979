use Rattle.std.proofs.Common.{◌≡◌, rules}
use Rattle.kernel_text.specs.declared.token.Sign.TheVariants as sign
use Rattle.kernel_text.specs.declared.token.Lexeme.TheVariants.{Mark}
use Rattle.kernel_text.proofs.Unfolding.{assign-takes}
use Rattle.kernel_text.proofs.judging.assign_move.Goals as goal

pub returns-in-Mark-Assign : goal.returns-in-Mark-Assign
returns-in-Mark-Assign c =
    let is : c.args.lexeme.now ≡ Mark sign.Assign = search rules in λ s a. rw is (assign-takes s a)
