use Rattle.std.proofs.Common.{◌≡◌, inl, inr, ap, sym, subst, ◌∙◌, arith}
use Rattle.std.specs.Borrow.{Bor}
use Rattle.std.specs.Prelude.{slice_get}
use Rattle.std.proofs.lemmas.Bool.{cases_order}
use Rattle.std.proofs.lemmas.Option.{same_Some}
use Rattle.log_segment.specs.declared.segment.Segment.{Segment}
use Rattle.explain.specs.Suspects.{IsAmong, MayMeet}
use Rattle.explain.proofs.Answering.{contains_at, place_is}
use Rattle.explain.proofs.Kept.{among_more}
use Rattle.explain.proofs.suspecting.add_met.Goals as goal

pub loop-their-preserved : goal.loop-their-preserved
loop-their-preserved c = record {
  met = λ k their below found may.
      let item = place_is c.args.suspects.now c.loop-their.their-index c.their-item.result c.loop-their-test.true c.their-item.is in
      elim (cases_order k c.loop-their.their-index) [
        | inl same ↦ (let e : c.their-item.result ≡ their = same_Some c.their-item.result their (sym item ∙ (ap (slice_get c.args.suspects.now) (sym same) ∙ found)) in
            subst (λ (t : Bor Segment). IsAmong t.now c.add_if_met.new.met.items) e
            (c.in_ok-add_if_met.ensures.met (c.loop-their.invariant.told c.their-item.result.now c.args.lines (subst (λ (t : Bor Segment). MayMeet c.args.own.now t.now c.args.one.now c.args.lines) (sym e) may))))
        | inr (inl less) ↦ among_more their.now c.loop-their.met.items c.add_if_met.new.met.items c.in_ok-add_if_met.ensures.old (c.loop-their.invariant.met k their less found may)
        | inr (inr above) ↦ absurd (omega (arith, above, below))
      ];
  told = c.loop-their.invariant.told;
  old = λ s held. c.in_ok-add_if_met.ensures.old s (c.loop-their.invariant.old s held);
}

pub returns-clause-met : goal.returns-clause-met
returns-clause-met c = λ their has may.
    subst (λ (t : Segment). IsAmong t c.loop-their.met.items) has.same
    (c.loop-their.invariant.met has.listed.0 has.one (omega (arith, has.listed.1, c.loop-their-test.false)) (contains_at c.args.suspects.now has.one has.listed)
    (subst (λ (t : Segment). MayMeet c.args.own.now t c.args.one.now c.args.lines) (sym has.same) may))
