use Rattle.std.proofs.Common.{◌≡◌, ◌∷◌, ◌+◌, ◌≤◌, ℕ, ap, true, false, rules, arith}
use Rattle.kernel_text.specs.declared.token.Sign.TheVariants as sign
use Rattle.kernel_text.specs.declared.token.Lexeme.TheVariants.{Mark}
use Rattle.kernel_text.specs.declared.judging.Want.TheVariants as want
use Rattle.kernel_text.specs.Wanting.{stack_of}
use Rattle.kernel_text.proofs.Moving.{wanted, deeper}
use Rattle.kernel_text.proofs.UnfoldingExprs.{named-operand, minus-operand, group-operand, is_leaf, leaf-operand, is_operand, operand-refuses}
use Rattle.kernel_text.proofs.judging.operand_move.Goals as goal

pub returns-in-Named : goal.returns-in-Named
returns-in-Named c =
    rw c.in-Named.is (wanted c.want_all.result _ _ _ _ _ (named-operand c.in-Named.field-0 c.args.level (stack_of c.args.stack.now.items) c.requires) c.want_all.ensures)

pub returns-in-Mark-Minus : goal.returns-in-Mark-Minus
returns-in-Mark-Minus c =
    let is : c.args.lexeme.now ≡ Mark sign.Minus = search rules in
    let more : c.args.level + 1 ≤ 32 → c.saturating_add.result ≡ c.args.level + 1 = λ le. search (rules, le) in
    rw is (deeper c.opened.result _ _ _ _ _ _ _ (minus-operand c.args.level (stack_of c.args.stack.now.items) c.requires) (λ le. ap (λ (n : ℕ). want.Operand n ∷ (stack_of c.args.stack.now.items)) (more le)) c.opened.ensures)

pub returns-in-Mark-OpenParen : goal.returns-in-Mark-OpenParen
returns-in-Mark-OpenParen c =
    let is : c.args.lexeme.now ≡ Mark sign.OpenParen = search rules in
    let more : c.args.level + 1 ≤ 32 → c.saturating_add-in-Mark-OpenParen.result ≡ c.args.level + 1 = λ le. search (rules, le) in
    rw is (deeper c.opened-in-Mark-OpenParen.result _ _ _ _ _ _ _ (group-operand c.args.level (stack_of c.args.stack.now.items) c.requires) (λ le. ap (λ (n : ℕ). want.Expr n ∷ want.CloseParen ∷ (stack_of c.args.stack.now.items)) (more le)) c.opened-in-Mark-OpenParen.ensures)

pub returns-in-Reserved-Tid : goal.returns-in-Reserved-Tid
returns-in-Reserved-Tid c =
    let is : is_leaf c.args.lexeme.now ≡ true = search rules in (0, omega arith, leaf-operand c.args.lexeme.now c.args.level (stack_of c.args.stack.now.items) is c.requires)

pub returns-in-Reserved-Tid-2 : goal.returns-in-Reserved-Tid-2
returns-in-Reserved-Tid-2 c =
    let is : is_leaf c.args.lexeme.now ≡ true = search rules in (0, omega arith, leaf-operand c.args.lexeme.now c.args.level (stack_of c.args.stack.now.items) is c.requires)

pub returns-in_default : goal.returns-in_default
returns-in_default c =
    let is : is_operand c.args.lexeme.now ≡ false = search rules in operand-refuses c.args.lexeme.now c.args.level (stack_of c.args.stack.now.items) is

pub returns-in_default-2 : goal.returns-in_default-2
returns-in_default-2 c =
    let is : is_operand c.args.lexeme.now ≡ false = search rules in operand-refuses c.args.lexeme.now c.args.level (stack_of c.args.stack.now.items) is
