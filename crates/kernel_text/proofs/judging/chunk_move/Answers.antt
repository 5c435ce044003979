use Rattle.std.proofs.Common.{◌≡◌, false, rules}
use Rattle.kernel_text.proofs.Unfolding.{chunk-takes, chunk-skips, is_number}
use Rattle.kernel_text.proofs.judging.chunk_move.Goals as goal

pub returns-in-Number : goal.returns-in-Number
returns-in-Number c =
    λ s a. rw c.in-Number.is (chunk-takes c.in-Number.field-0 s a)

pub returns-in_default : goal.returns-in_default
returns-in_default c =
    let is : is_number c.args.lexeme.now ≡ false = search rules in λ s. chunk-skips c.args.lexeme.now s is
