use Rattle.std.proofs.Common.{◌≡◌, ◌⊎◌, ℕ, sym, subst}
use Rattle.command_answer.specs.Answer.{IsFailure}
use Rattle.command_answer.specs.declared.status.TheConstants.{USAGE}
use Rattle.sword_program.proofs.Ending.{usage_status}
use Rattle.sword_program.proofs.program.answer.Goals as goal

pub returns-clause-usage : goal.returns-clause-usage
returns-clause-usage g c = λ usage. subst (λ (status : ℕ). (status ≡ USAGE) ⊎ IsFailure status) (sym c.exit_code.ensures) (usage_status _ _ _ (c.sword.ensures.usage usage))
