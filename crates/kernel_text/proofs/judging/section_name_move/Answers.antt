use Rattle.std.proofs.Common.{◌≡◌, false, rules}
use Rattle.kernel_text.proofs.Unfolding.{section_name-takes, section_name-skips, is_named}
use Rattle.kernel_text.proofs.judging.section_name_move.Goals as goal

pub returns-in-Named : goal.returns-in-Named
returns-in-Named c =
    λ s a. rw c.in-Named.is (section_name-takes c.in-Named.field-0 s a)

pub returns-in_default : goal.returns-in_default
returns-in_default c =
    let is : is_named c.args.lexeme.now ≡ false = search rules in λ s. section_name-skips c.args.lexeme.now s is
