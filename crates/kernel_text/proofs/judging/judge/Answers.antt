use Rattle.std.proofs.Common.{◌≡◌, ◌<◌, ◌∷◌, [], length, vec_len, rules, sym, ap, ◌∙◌}
use Rattle.std.proofs.lemmas.List.{nil_from_length}
use Rattle.std.proofs.lemmas.Bool.{eqb-false, eqb-true}
use Rattle.kernel_text.specs.declared.judging.Want.TheVariants as want
use Rattle.kernel_text.specs.Wanting.{stack_of}
use Rattle.kernel_text.proofs.JudgingTokens.{stack_some, judged-none, judged-more, is-kernel, is-syntax, is-deep, is-early}
use Rattle.kernel_text.proofs.judging.judge.Goals as goal

pub tokens-init : goal.tokens-init
tokens-init c =
    let one : c.push.new.self.items ≡ want.Kernel ∷ [] = search rules in
    judged-none c.args.tokens.now _ (ap stack_of one)

pub tokens-preserved : goal.tokens-preserved
tokens-preserved c =
    let gone = rw c.in-Takes.is at c.in_ok-step.ensures in
    judged-more _ _ _ _ _ _ gone.0 c.tokens.invariant c.in-Some.ensures.cases.0 gone.1 gone.2

pub returns-in-Deep : goal.returns-in-Deep
returns-in-Deep c =
    let deep = rw c.in-Deep.is at c.in_ok-step.ensures in
    is-deep _ _ _ _ _ _ deep.0 c.tokens.invariant c.in-Some.ensures.cases.0 deep.2 deep.3

pub returns-in-Fails : goal.returns-in-Fails
returns-in-Fails c =
    let stops = rw c.in-Fails.is at c.in_ok-step.ensures in
    is-syntax _ _ _ _ _ c.tokens.invariant c.in-Some.ensures.cases.0 stops

pub returns-then-is_empty : goal.returns-then-is_empty
returns-then-is_empty c =
    let is = eqb-true (vec_len c.tokens.stack) 0 (sym c.is_empty.ensures ∙ c.if-is_empty.true) in
    let none : length c.tokens.stack.items ≡ 0 = search rules in
    is-kernel _ _ _ c.tokens.invariant (nil_from_length _ c.in_default.ensures.cases) (ap stack_of (nil_from_length _ none))

pub returns : goal.returns
returns c =
    let is = eqb-false (vec_len c.tokens.stack) 0 (sym c.is_empty.ensures ∙ c.if-is_empty.false) in
    let some : 0 < length c.tokens.stack.items = search rules in
    let top = stack_some c.tokens.stack.items some in
    is-early _ _ top.0 top.1 _ c.tokens.invariant (nil_from_length _ c.in_default.ensures.cases) top.2
