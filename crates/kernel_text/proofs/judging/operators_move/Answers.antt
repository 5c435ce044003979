use Rattle.std.proofs.Common.{◌≡◌, true, false, None, rules, refl}
use Rattle.kernel_text.specs.Wanting.{stack_of}
use Rattle.kernel_text.proofs.Moving.{wanted}
use Rattle.kernel_text.specs.Grammar.{is_comparison}
use Rattle.kernel_text.proofs.Operators.{operation_is}
use Rattle.kernel_text.proofs.UnfoldingOperators.{operators-skip, plain-takes, comparison-takes, comparison-skips}
use Rattle.kernel_text.proofs.judging.operators_move.Goals as goal

pub returns-in_default : goal.returns-in_default
returns-in_default c =
    (operators-skip c.args.lexeme.now c.args.level c.args.compares (stack_of c.args.stack.now.items) (operation_is c.args.lexeme.now None c.in_default.ensures), refl)

pub returns-then-not-is_comparison : goal.returns-then-not-is_comparison
returns-then-not-is_comparison c =
    let is : is_comparison c.in-Some.op ≡ false = search rules in
    rw c.in-Some.ensures (wanted c.want_all.result _ _ _ _ _ (plain-takes c.in-Some.op c.args.level c.args.compares (stack_of c.args.stack.now.items) is c.requires) c.want_all.ensures)

pub returns-then-not-compares : goal.returns-then-not-compares
returns-then-not-compares c =
    let is : is_comparison c.in-Some.op ≡ true = search rules in
    let none : c.args.compares ≡ false = search rules in
    (rw c.in-Some.ensures (comparison-skips c.in-Some.op c.args.level c.args.compares (stack_of c.args.stack.now.items) none is), refl)

pub returns : goal.returns
returns c =
    let is : is_comparison c.in-Some.op ≡ true = search rules in
    let may : c.args.compares ≡ true = search rules in
    rw c.in-Some.ensures (wanted c.want_all-2.result _ _ _ _ _ (comparison-takes c.in-Some.op c.args.level c.args.compares (stack_of c.args.stack.now.items) may is c.requires) c.want_all-2.ensures)
