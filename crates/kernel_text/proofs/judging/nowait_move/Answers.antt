use Rattle.std.proofs.Common.{◌≡◌, false, rules}
use Rattle.kernel_text.specs.declared.token.Word.TheVariants as word
use Rattle.kernel_text.specs.declared.token.Lexeme.TheVariants.{Reserved}
use Rattle.kernel_text.proofs.Unfolding.{nowait-takes, nowait-skips, is_nowait}
use Rattle.kernel_text.proofs.judging.nowait_move.Goals as goal

pub returns-in-Reserved-Nowait : goal.returns-in-Reserved-Nowait
returns-in-Reserved-Nowait c =
    let is : c.args.lexeme.now ≡ Reserved word.Nowait = search rules in λ s a. rw is (nowait-takes s a)

pub returns-in_default : goal.returns-in_default
returns-in_default c =
    let is : is_nowait c.args.lexeme.now ≡ false = search rules in λ s. nowait-skips c.args.lexeme.now s is

pub returns-in_default-2 : goal.returns-in_default-2
returns-in_default-2 c =
    let is : is_nowait c.args.lexeme.now ≡ false = search rules in λ s. nowait-skips c.args.lexeme.now s is
