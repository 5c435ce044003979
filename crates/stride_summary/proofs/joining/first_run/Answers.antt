use Rattle.std.proofs.Common.{get_or, inl, inr, refl, rules, sym}
use Rattle.stride_summary.specs.declared.single.Single.{Single}
use Rattle.stride_summary.proofs.Joined.{blank, run_begins, run_ends}
use Rattle.stride_summary.proofs.joining.first_run.Goals.{then-count-eq1, else-count-eq1}
use Rattle.stride_summary.proofs.joining.first_run.Goals as goal

pub returns : goal.returns
returns c =
    let within = c.even_count-count.ensures.within in
    let first : Single = get_or c.args.singles.now 0 blank in
    run_begins c.args.singles.now c.distance_at-distance.result c.even_count-count.result c.even_count-count.ensures.even within.0 within.1 _
    (λ i. record { line = first.line; site = first.site; size = first.size; write = first.write; atomic = first.atomic; held = sym c.none.ensures i }) refl refl
    (elim c.if-count-eq1.branch [ then-count-eq1 w ↦ inl (search rules) | else-count-eq1 w ↦ inr (search rules) ])

pub invariant_of-result-clause-bounded : goal.invariant_of-result-clause-bounded
invariant_of-result-clause-bounded c =
    let within = c.even_count-count.ensures.within in
    run_ends c.args.singles.now c.distance_at-distance.result c.even_count-count.result c.even_count-count.ensures.even within.0 within.1 c.if-count-eq1.result
    (elim c.if-count-eq1.branch [ then-count-eq1 w ↦ inl (search rules) | else-count-eq1 w ↦ inr (search rules) ]) c.requires.sized c.requires.ends
