use Rattle.std.proofs.Common.{◌≡◌, true, false, rules}
use Rattle.kernel_text.proofs.Unfolding.{is_update, update_sign-takes, update_sign-refuses}
use Rattle.kernel_text.proofs.judging.update_sign_move.Goals as goal

pub returns-in-Mark-PlusAssign : goal.returns-in-Mark-PlusAssign
returns-in-Mark-PlusAssign c =
    let is : is_update c.args.lexeme.now ≡ true = search rules in λ s a. update_sign-takes c.args.lexeme.now s is a

pub returns-in_default : goal.returns-in_default
returns-in_default c =
    let not : is_update c.args.lexeme.now ≡ false = search rules in λ s. update_sign-refuses c.args.lexeme.now not s

pub returns-in_default-2 : goal.returns-in_default-2
returns-in_default-2 c =
    let not : is_update c.args.lexeme.now ≡ false = search rules in λ s. update_sign-refuses c.args.lexeme.now not s
