use Rattle.std.proofs.Common.{◌≡◌, ◌∷◌, ◌+◌, ◌≤◌, ℕ, ap, false, rules, refl}
use Rattle.kernel_text.specs.declared.token.Sign.TheVariants as sign
use Rattle.kernel_text.specs.declared.token.Lexeme.TheVariants.{Mark}
use Rattle.kernel_text.specs.declared.judging.Want.TheVariants as want
use Rattle.kernel_text.specs.Wanting.{stack_of}
use Rattle.kernel_text.proofs.Moving.{deeper}
use Rattle.kernel_text.proofs.Unfolding.{index-skips, is_bracket}
use Rattle.kernel_text.proofs.UnfoldingExprs.{index-takes}
use Rattle.kernel_text.proofs.judging.index_move.Goals as goal

pub returns-in-Mark-OpenBracket : goal.returns-in-Mark-OpenBracket
returns-in-Mark-OpenBracket c =
    let is : c.args.lexeme.now ≡ Mark sign.OpenBracket = search rules in
    let more : c.args.level + 1 ≤ 32 → c.saturating_add.result ≡ c.args.level + 1 = λ le. search (rules, le) in
    rw is (deeper c.opened.result _ _ _ _ _ _ _ (index-takes c.args.level (stack_of c.args.stack.now.items) c.requires) (λ le. ap (λ (n : ℕ). want.Expr n ∷ want.CloseBracket ∷ (stack_of c.args.stack.now.items)) (more le)) c.opened.ensures)

pub returns-in_default : goal.returns-in_default
returns-in_default c =
    let is : is_bracket c.args.lexeme.now ≡ false = search rules in (index-skips c.args.lexeme.now c.args.level (stack_of c.args.stack.now.items) is, refl)

pub returns-in_default-2 : goal.returns-in_default-2
returns-in_default-2 c =
    let is : is_bracket c.args.lexeme.now ≡ false = search rules in (index-skips c.args.lexeme.now c.args.level (stack_of c.args.stack.now.items) is, refl)
