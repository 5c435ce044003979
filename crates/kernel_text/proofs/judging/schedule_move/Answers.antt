use Rattle.std.proofs.Common.{◌≡◌, true, false, rules, refl}
use Rattle.kernel_text.specs.Wanting.{stack_of}
use Rattle.kernel_text.proofs.Moving.{wanted}
use Rattle.kernel_text.proofs.Unfolding.{is_schedule, schedule-skips}
use Rattle.kernel_text.proofs.UnfoldingExprs.{schedule-takes}
use Rattle.kernel_text.proofs.judging.schedule_move.Goals as goal

pub returns-in-Reserved-Static : goal.returns-in-Reserved-Static
returns-in-Reserved-Static c =
    let is : is_schedule c.args.lexeme.now ≡ true = search rules in wanted c.want_all.result _ _ _ _ _ (schedule-takes c.args.lexeme.now (stack_of c.args.stack.now.items) is c.requires) c.want_all.ensures

pub returns-in_default : goal.returns-in_default
returns-in_default c =
    let is : is_schedule c.args.lexeme.now ≡ false = search rules in (schedule-skips c.args.lexeme.now (stack_of c.args.stack.now.items) is, refl)

pub returns-in_default-2 : goal.returns-in_default-2
returns-in_default-2 c =
    let is : is_schedule c.args.lexeme.now ≡ false = search rules in (schedule-skips c.args.lexeme.now (stack_of c.args.stack.now.items) is, refl)
