use Rattle.std.proofs.Common.{rules, refl, inl, inr}
use Rattle.span_label.proofs.Precedence.{compared, decides_by_rests, decides_by_triples, nothing_before, all_rest}
use Rattle.span_label.proofs.label.+precedes.Goals as goal

pub returns-in_default-split_first : goal.returns-in_default-split_first
returns-in_default-split_first t c = (
  λ yes. nothing_before c.in-Some.b.now c.args.x.now c.args.y.now c.in-Some.ys.now c.in_default-split_first.ensures.cases c.in-Some.ensures.cases.0,
  λ before. refl,
)

pub precedes-requires : goal.precedes-requires
precedes-requires t c = (search rules, all_rest c.in-Some-split_first.a.now c.in-Some-split_first.xs.now c.args.x.now c.in-Some-split_first.ensures.cases.0 c.requires)

pub returns-then-eq : goal.returns-then-eq
returns-then-eq t c =
    decides_by_rests _ c.in-Some-split_first.a.now c.in-Some.b.now c.in-Some-split_first.xs.now c.in-Some.ys.now c.args.x.now c.args.y.now
    c.in-Some-split_first.ensures.cases.0 c.in-Some.ensures.cases.0
    (elim (compared c.in-Some-split_first.a.now c.in-Some.b.now _ c.if-eq.ensures) [ inl p ↦ p.1 | inr p ↦ absurd (let q = p.0 in cc) ])
    c.precedes.ensures.0 c.precedes.ensures.1

pub returns-else-eq : goal.returns-else-eq
returns-else-eq t c =
    decides_by_triples _ c.in-Some-split_first.a.now c.in-Some.b.now c.in-Some-split_first.xs.now c.in-Some.ys.now c.args.x.now c.args.y.now
    c.in-Some-split_first.ensures.cases.0 c.in-Some.ensures.cases.0
    (elim (compared c.in-Some-split_first.a.now c.in-Some.b.now _ c.if-eq.ensures) [ inl p ↦ absurd (let q = p.0 in cc) | inr p ↦ p.1 ])
    c.is_before.ensures.0 c.is_before.ensures.1
