use Rattle.std.proofs.Common.{◌≡◌, ℕ, ◌+◌, List, length, refl, ap, ◌∙◌, arith, rules, w64}
use Rattle.std.proofs.lemmas.Int.{to_z-of_z}
use Rattle.std.proofs.lemmas.Result.{err_from_is_err_and}
use Rattle.std.proofs.lemmas.List.{nil_from_length}
use Rattle.kernel_text.specs.declared.token.Token.{Token}
use Rattle.kernel_syntax.specs.declared.syntax.Op.{Op}
use Rattle.kernel_text.specs.Grammar.{Tree, number, mark, reserved, NumberAt, Group, Minus, Element, Binary}
use Rattle.kernel_parser.specs.declared.tree.Tree as code
use Rattle.kernel_parser.specs.Trees.{tree_of}
use Rattle.kernel_parser.proofs.Rests.{only-fault}
use Rattle.kernel_parser.proofs.Signs.{not-true}
use Rattle.kernel_parser.proofs.Parts.{part-at, never-none, number-is, no-sign, minus-of, group-of, element-of, name-alone, begun, grown, grows-at, grows-by, operand-at, no-operand}
use Rattle.kernel_parser.proofs.expression.+expression.Goals as goal

pub minus-returns-then-levels-eq0-clause-read : goal.minus-returns-then-levels-eq0-clause-read
minus-returns-then-levels-eq0-clause-read t c = λ u after is. let m = minus-of _ _ _ u after is in let room = m.room in absurd (omega arith)

pub minus-returns-in_err-operand-clause-read : goal.minus-returns-in_err-operand-clause-read
minus-returns-in_err-operand-clause-read t c =
    let p = err_from_is_err_and c.from_residual.result c.from_residual.ensures.1 in
    λ u after is.
    let m = minus-of _ _ _ u after is in
    rw (p.1, p.2) (only-fault _ _ c.in_err-operand.field-0.0 (c.in_err-operand.ensures.read m.operand after m.is))

pub minus-returns-clause-read : goal.minus-returns-clause-read
minus-returns-clause-read t c = λ u after is.
    let m = minus-of _ _ _ u after is in
    let q = c.in_ok-operand.ensures.read m.operand after m.is in
    (ap (λ (x : code.Tree). Minus c.args.line (tree_of x)) c.in_ok-new.ensures.ok ∙ ap (Minus c.args.line) q.0 ∙ m.whole, q.1)

pub group-returns-then-levels-eq0-clause-read : goal.group-returns-then-levels-eq0-clause-read
group-returns-then-levels-eq0-clause-read t c = λ u after is. let g = group-of _ _ _ u after is in let room = g.room in absurd (omega arith)

pub group-returns-in_err-inside-clause-read : goal.group-returns-in_err-inside-clause-read
group-returns-in_err-inside-clause-read t c =
    let p = err_from_is_err_and c.from_residual.result c.from_residual.ensures.1 in
    λ u after is.
    let g = group-of _ _ _ u after is in
    rw (p.1, p.2) (only-fault _ _ c.in_err-inside.field-0.0 (c.in_err-inside.ensures.read g.inside _ g.is))

pub group-returns-clause-read : goal.group-returns-clause-read
group-returns-clause-read t c = λ u after is.
    let g = group-of _ _ _ u after is in
    let q = c.in_ok-inside.ensures.read g.inside _ g.is in
    let s = c.skip-closed.ensures.told _ _ q.1 in
    (ap (λ (x : code.Tree). Group c.args.opened (tree_of x) c.skip-closed.result.0) c.in_ok-new.ensures.ok ∙ ap (λ (x : Tree). Group c.args.opened x c.skip-closed.result.0) q.0 ∙ ap (Group c.args.opened g.inside) s.0 ∙ g.whole, s.1)

pub name-returns-then-not-is_open_bracket-clause-read : goal.name-returns-then-not-is_open_bracket-clause-read
name-returns-then-not-is_open_bracket-clause-read t c = λ u after is. name-alone _ _ _ _ u after (λ some. not-true (c.if-not-is_open_bracket.ensures.1 some)) is

pub name-returns-then-levels-eq0-clause-read : goal.name-returns-then-levels-eq0-clause-read
name-returns-then-levels-eq0-clause-read t c = λ u after is. let e = element-of _ _ _ _ u after (c.if-not-is_open_bracket.ensures.0 refl) is in let room = e.room in absurd (omega arith)

pub name-returns-in_err-index-clause-read : goal.name-returns-in_err-index-clause-read
name-returns-in_err-index-clause-read t c =
    let p = err_from_is_err_and c.from_residual.result c.from_residual.ensures.1 in
    λ u after is.
    let e = element-of _ _ _ _ u after (c.if-not-is_open_bracket.ensures.0 refl) is in
    let s = c.skip-opened.ensures.told _ _ e.parts in
    rw (p.1, p.2) (only-fault _ _ c.in_err-index.field-0.0 (c.in_err-index.ensures.read e.index _ (part-at _ _ _ _ e.index _ s.1 e.is)))

pub name-returns-clause-read : goal.name-returns-clause-read
name-returns-clause-read t c = λ u after is.
    let e = element-of _ _ _ _ u after (c.if-not-is_open_bracket.ensures.0 refl) is in
    let s = c.skip-opened.ensures.told _ _ e.parts in
    let q = c.in_ok-index.ensures.read e.index _ (part-at _ _ _ _ e.index _ s.1 e.is) in
    let r = c.skip-closed.ensures.told _ _ q.1 in (
      ap (λ (x : code.Tree). Element c.args.line c.args.name c.skip-opened.result.0 (tree_of x) c.skip-closed.result.0) c.in_ok-new.ensures.ok
          ∙ ap (λ (n : ℕ). Element c.args.line c.args.name n (tree_of c.in_ok-index.index) c.skip-closed.result.0) s.0
          ∙ ap (λ (x : Tree). Element c.args.line c.args.name e.opened x c.skip-closed.result.0) q.0
          ∙ ap (Element c.args.line c.args.name e.opened e.index) r.0 ∙ e.whole,
      r.1,
    )

pub operand-returns-in_default-clause-read : goal.operand-returns-in_default-clause-read
operand-returns-in_default-clause-read t c = λ u after is. never-none u _ _ after (nil_from_length _ c.in_default.ensures.cases) is

pub operand-returns-in-Number-clause-read : goal.operand-returns-in-Number-clause-read
operand-returns-in-Number-clause-read t c = λ u after is.
    let n = number-is _ _ _ _ u after (operand-at _ _ _ _ (number c.in-Some.token.now.line c.in-Number.value) u after c.in-Some.ensures.cases.0 c.in-Number.is refl is) in
    (ap (NumberAt c.in-Some.token.now.line) (to_z-of_z w64 c.in-Number.value (search rules)) ∙ n.0, n.1)

pub operand-returns-in-Reserved-clause-read : goal.operand-returns-in-Reserved-clause-read
operand-returns-in-Reserved-clause-read t c = λ u after is. c.word.ensures.read c.args.levels u after (operand-at _ _ _ _ (reserved c.in-Some.token.now.line c.in-Reserved.found) u after c.in-Some.ensures.cases.0 c.in-Reserved.is refl is)

pub sign-returns-in_default-clause-read : goal.sign-returns-in_default-clause-read
sign-returns-in_default-clause-read t c = λ u after is. no-operand _ (mark c.args.line c.args.first) _ u after is (no-sign c.args.first u c.in_default.not-Minus c.in_default.not-OpenParen)

pub part-returns-in_err-held-clause-read : goal.part-returns-in_err-held-clause-read
part-returns-in_err-held-clause-read t c =
    let p = err_from_is_err_and c.from_residual.result c.from_residual.ensures.1 in
    λ u after is.
    let b = begun _ _ _ u after is in
    rw (p.1, p.2) (only-fault _ _ c.in_err-held.field-0.0 (c.in_err-held.ensures.read b.operand b.left b.is))

pub part-operators-init : goal.part-operators-init
part-operators-init t c = record {
  read = λ u after is.
      let b = begun _ _ _ u after is in
      let q = c.in_ok-held.ensures.read b.operand b.left b.is in
      grows-at _ _ u after _ _ _ _ q.0 q.1 b.grows;
  shorter = c.in_ok-held.ensures.shorter;
}

pub part-returns-in_err-right-clause-read : goal.part-returns-in_err-right-clause-read
part-returns-in_err-right-clause-read t c =
    let p = err_from_is_err_and c.from_residual-in_err-right.result c.from_residual-in_err-right.ensures.1 in
    let o = c.in-Some.ensures in
    λ u after is.
    let g = grows-by _ _ u after _ _ _ _ _ (c.operators.invariant.read u after is) o.0 o.1 is.ends _ c.right_rank-inner.ensures in
    rw (p.1, p.2) (only-fault _ _ c.in_err-right.field-0.0 (c.in_err-right.ensures.read g.right g.left g.is))

binary-is : (left left2 : code.Tree) (op : Op) (line : ℕ) (right right2 : code.Tree) (v : Tree) → left2 ≡ left → right2 ≡ right → tree_of right ≡ v → Binary (tree_of left2) op line (tree_of right2) ≡ Binary (tree_of left) op line v
binary-is left left2 op line right right2 v left_is right_is v_is = rw (left_is, right_is, v_is) refl

pub part-operators-preserved : goal.part-operators-preserved
part-operators-preserved t c =
    let o = c.in-Some.ensures in
    let split : length c.operators.rest.now ≡ length c.in-Some.behind.now + 1 = omega (arith, ap (λ (us : List Token). length us) o.0) in
    let so_far = c.operators.invariant.shorter in
    let less = c.in_ok-right.ensures.shorter in
    record {
      read = λ u after is.
          let g = grows-by _ _ u after _ _ _ _ _ (c.operators.invariant.read u after is) o.0 o.1 is.ends _ c.right_rank-inner.ensures in
          let q = c.in_ok-right.ensures.read g.right g.left g.is in
          grows-at _ _ u after _ _ _ _ (binary-is _ _ _ _ _ _ _ c.in_ok-new.ensures.ok c.in_ok-new-2.ensures.ok q.0) q.1 g.grows;
      shorter = omega (arith, split, so_far, less);
    }

pub part-returns-clause-read : goal.part-returns-clause-read
part-returns-clause-read t c = λ u after is. grown _ _ u after _ _ (c.operators.invariant.read u after is) c.in_default.ensures
