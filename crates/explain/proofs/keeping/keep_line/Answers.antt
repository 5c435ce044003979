use Rattle.std.proofs.Common.{◌≡◌, Contains, inl, inr, ap, sym, subst, ◌∙◌, arith}
use Rattle.std.specs.Prelude.{slice_get}
use Rattle.std.proofs.lemmas.Bool.{cases_order}
use Rattle.std.proofs.lemmas.Option.{same_Some}
use Rattle.log_segment.specs.declared.segment.Segment.{Segment}
use Rattle.explain.proofs.Answering.{contains_at, place_is}
use Rattle.explain.proofs.Kept.{part_again, part_more}
use Rattle.explain.proofs.keeping.keep_line.Goals as goal

pub loop-segment-preserved : goal.loop-segment-preserved
loop-segment-preserved c = record {
  keeps = λ k own below found run run_in on.
      let item = place_is c.args.segments.now c.loop-segment.segment-index c.segment-item.result c.loop-segment-test.true c.segment-item.is in
      elim (cases_order k c.loop-segment.segment-index) [
        | inl same ↦ (let e : c.segment-item.result ≡ own = same_Some c.segment-item.result own (sym item ∙ (ap (slice_get c.args.segments.now) (sym same) ∙ found)) in
            part_again run c.keep_part.new.kept.items e (c.in_ok-keep_part.ensures.part run (subst (λ (s : Segment). Contains s.runs.items run) (sym e) run_in) on))
        | inr (inl less) ↦ part_more own run c.loop-segment.kept.items c.keep_part.new.kept.items c.in_ok-keep_part.ensures.old (c.loop-segment.invariant.keeps k own less found run run_in on)
        | inr (inr above) ↦ absurd (omega (arith, above, below))
      ];
  old = λ part held. c.in_ok-keep_part.ensures.old part (c.loop-segment.invariant.old part held);
}

pub returns-clause-keeps : goal.returns-clause-keeps
returns-clause-keeps c = λ own run own_in run_in on.
    c.loop-segment.invariant.keeps own_in.0 own (omega (arith, own_in.1, c.loop-segment-test.false)) (contains_at c.args.segments.now own own_in) run run_in on
