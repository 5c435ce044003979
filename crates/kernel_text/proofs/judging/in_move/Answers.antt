use Rattle.std.proofs.Common.{◌≡◌, rules}
use Rattle.kernel_text.specs.declared.token.Word.TheVariants as word
use Rattle.kernel_text.specs.declared.token.Lexeme.TheVariants.{Reserved}
use Rattle.kernel_text.proofs.Unfolding.{in-takes}
use Rattle.kernel_text.proofs.judging.in_move.Goals as goal

pub returns-in-Reserved-In : goal.returns-in-Reserved-In
returns-in-Reserved-In c =
    let is : c.args.lexeme.now ≡ Reserved word.In = search rules in λ s a. rw is (in-takes s a)
