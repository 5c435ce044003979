use Rattle.std.proofs.Common.{◌≡◌, false, rules, refl}
use Rattle.kernel_text.specs.declared.token.Word.TheVariants as word
use Rattle.kernel_text.specs.declared.token.Lexeme.TheVariants.{Reserved}
use Rattle.kernel_text.specs.Wanting.{stack_of}
use Rattle.kernel_text.proofs.Moving.{wanted}
use Rattle.kernel_text.proofs.Unfolding.{else-skips, is_else}
use Rattle.kernel_text.proofs.UnfoldingExprs.{else-takes}
use Rattle.kernel_text.proofs.judging.else_move.Goals as goal

pub returns-in-Reserved-Else : goal.returns-in-Reserved-Else
returns-in-Reserved-Else c =
    let is : c.args.lexeme.now ≡ Reserved word.Else = search rules in rw is (wanted c.want_all.result _ _ _ _ _ (else-takes c.args.level (stack_of c.args.stack.now.items) c.requires) c.want_all.ensures)

pub returns-in_default : goal.returns-in_default
returns-in_default c =
    let is : is_else c.args.lexeme.now ≡ false = search rules in (else-skips c.args.lexeme.now c.args.level (stack_of c.args.stack.now.items) is, refl)

pub returns-in_default-2 : goal.returns-in_default-2
returns-in_default-2 c =
    let is : is_else c.args.lexeme.now ≡ false = search rules in (else-skips c.args.lexeme.now c.args.level (stack_of c.args.stack.now.items) is, refl)
