use Rattle.std.proofs.Common.{◌≡◌, inl, inr, ap, sym, subst, ◌∙◌, arith}
use Rattle.std.specs.Borrow.{Bor}
use Rattle.std.specs.Prelude.{slice_get}
use Rattle.std.proofs.lemmas.Bool.{cases_order}
use Rattle.std.proofs.lemmas.Option.{same_Some}
use Rattle.log_segment.specs.declared.segment.Segment.{Segment}
use Rattle.pair_compare.specs.Compare.{IsRacingPair}
use Rattle.explain.proofs.Answering.{contains_at, not_so, place_is}
use Rattle.explain.proofs.suspecting.meets.Goals as goal

pub loop-suspect-preserved : goal.loop-suspect-preserved
loop-suspect-preserved c = λ k their below found racing.
    let item = place_is c.args.suspects.now c.loop-suspect.suspect-index c.suspect-item.result c.loop-suspect-test.true c.suspect-item.is in
    elim (cases_order k c.loop-suspect.suspect-index) [
      | inl same ↦ (let e : c.suspect-item.result ≡ their = same_Some c.suspect-item.result their (sym item ∙ (ap (slice_get c.args.suspects.now) (sym same) ∙ found)) in
          absurd (not_so (c.in_ok-racing.ensures (subst (λ (t : Bor Segment). IsRacingPair c.args.own.now t.now c.args.lines) (sym e) racing)) c.if-racing.false))
      | inr (inl less) ↦ c.loop-suspect.invariant k their less found racing
      | inr (inr above) ↦ absurd (omega (arith, above, below))
    ]

pub returns : goal.returns
returns c = λ their has racing. absurd (c.loop-suspect.invariant has.listed.0 has.one (omega (arith, has.listed.1, c.loop-suspect-test.false)) (contains_at c.args.suspects.now has.one has.listed)
    (subst (λ (t : Segment). IsRacingPair c.args.own.now t c.args.lines) (sym has.same) racing))
