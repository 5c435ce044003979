use Rattle.std.proofs.Common.{◌≡◌, ◌∷◌, ◌+◌, ◌≤◌, ℕ, ap, rules}
use Rattle.kernel_text.specs.declared.token.Sign.TheVariants as sign
use Rattle.kernel_text.specs.declared.token.Lexeme.TheVariants.{Mark}
use Rattle.kernel_text.specs.declared.judging.Want.TheVariants as want
use Rattle.kernel_text.specs.Wanting.{stack_of}
use Rattle.kernel_text.proofs.Moving.{deeper}
use Rattle.kernel_text.proofs.UnfoldingExprs.{block-takes}
use Rattle.kernel_text.proofs.judging.block_move.Goals as goal

pub returns-in-Mark-OpenBrace : goal.returns-in-Mark-OpenBrace
returns-in-Mark-OpenBrace c =
    let is : c.args.lexeme.now ≡ Mark sign.OpenBrace = search rules in
    let more : c.args.level + 1 ≤ 32 → c.saturating_add.result ≡ c.args.level + 1 = λ le. search (rules, le) in
    rw is (deeper c.opened.result _ _ _ _ _ _ _ (block-takes c.args.level (stack_of c.args.stack.now.items) c.requires) (λ le. ap (λ (n : ℕ). want.Stmts n ∷ want.CloseBrace ∷ (stack_of c.args.stack.now.items)) (more le)) c.opened.ensures)
