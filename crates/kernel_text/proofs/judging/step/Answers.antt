use Rattle.std.proofs.Common.{List, ◌≡◌, ◌∙◌, length, ap, sym, subst, arith, rules}
use Rattle.std.proofs.lemmas.List.{nil_from_length}
use Rattle.kernel_text.specs.declared.judging.Want.{Want}
use Rattle.kernel_text.specs.Wanting.{stack_of}
use Rattle.kernel_text.proofs.Moving.{stack_of-push, Reaches, reaches-more, reaches-refuses, reaches-none, reaches-takes}
use Rattle.kernel_text.proofs.judging.step.Goals as goal

pub wants-smaller : goal.wants-smaller
wants-smaller c =
    let top = ap stack_of c.in-Some.ensures.items ∙ stack_of-push c.pop.new.self.items c.in-Some.want in
    let skipped = rw c.in-Skips.is at c.in_ok-move_one.ensures in
    let fewer = ap length top in
    let same = ap length skipped.1 in
    omega arith

pub wants-preserved : goal.wants-preserved
wants-preserved c =
    let top = ap stack_of c.in-Some.ensures.items ∙ stack_of-push c.pop.new.self.items c.in-Some.want in
    let here = subst (λ (s : List Want). Reaches c.args.lexeme.now (stack_of c.args.stack.now.items) s) top c.wants.invariant in
    let skipped = rw c.in-Skips.is at c.in_ok-move_one.ensures in
    subst (λ (s : List Want). Reaches c.args.lexeme.now (stack_of c.args.stack.now.items) s) (sym skipped.1) (reaches-more _ _ _ _ here skipped.0)

pub returns-in-Fails : goal.returns-in-Fails
returns-in-Fails c =
    let top = ap stack_of c.in-Some.ensures.items ∙ stack_of-push c.pop.new.self.items c.in-Some.want in
    let here = subst (λ (s : List Want). Reaches c.args.lexeme.now (stack_of c.args.stack.now.items) s) top c.wants.invariant in
    let failed = rw c.in-Fails.is at c.in_ok-move_one.ensures in reaches-refuses _ _ _ here failed

pub returns-in-Takes : goal.returns-in-Takes
returns-in-Takes c =
    let top = ap stack_of c.in-Some.ensures.items ∙ stack_of-push c.pop.new.self.items c.in-Some.want in
    let here = subst (λ (s : List Want). Reaches c.args.lexeme.now (stack_of c.args.stack.now.items) s) top c.wants.invariant in
    let taken = rw c.in-Takes.is at c.in_ok-move_one.ensures in (taken.0, taken.1, reaches-takes _ _ _ _ _ here taken.2)

pub returns-in-Deep : goal.returns-in-Deep
returns-in-Deep c =
    let top = ap stack_of c.in-Some.ensures.items ∙ stack_of-push c.pop.new.self.items c.in-Some.want in
    let here = subst (λ (s : List Want). Reaches c.args.lexeme.now (stack_of c.args.stack.now.items) s) top c.wants.invariant in
    let deep = rw c.in-Deep.is at c.in_ok-move_one.ensures in (deep.0, deep.1, deep.2, reaches-takes _ _ _ _ _ here deep.3)

pub returns : goal.returns
returns c =
    let none : length c.wants.stack.items ≡ 0 = search (rules, c.in_default.ensures.cases.0) in
    reaches-none _ _ _ (ap stack_of (nil_from_length _ none)) c.wants.invariant
