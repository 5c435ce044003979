use Rattle.std.proofs.Common.{◌≡◌, List, inl, inr, ap, sym, subst, ◌∙◌, arith}
use Rattle.std.specs.Borrow.{Bor}
use Rattle.std.specs.Prelude.{slice_get}
use Rattle.std.proofs.lemmas.Bool.{cases_order}
use Rattle.std.proofs.lemmas.Option.{same_Some}
use Rattle.log_segment.specs.declared.segment.Segment.{Segment}
use Rattle.pair_compare.specs.Compare.{IsRacingPair}
use Rattle.explain.specs.Filed.{HasOne}
use Rattle.explain.specs.Suspects.{root_team}
use Rattle.explain.proofs.Answering.{contains_at, not_so, place_is}
use Rattle.explain.proofs.Filing.{found_has, not_found}
use Rattle.explain.proofs.suspecting.is_row_suspected.Goals as goal

pub loop-own-preserved : goal.loop-own-preserved
loop-own-preserved c = λ k own below found their listed team racing.
    let item = place_is c.deref-own-items.result.now c.loop-own.own-index c.own-item.result c.loop-own-test.true c.own-item.is in
    elim (cases_order k c.loop-own.own-index) [
      | inl same ↦ (let e : c.own-item.result ≡ own = same_Some c.own-item.result own (sym item ∙ (ap (slice_get c.deref-own-items.result.now) (sym same) ∙ found)) in
          absurd (not_so (c.in_ok-racing.ensures their listed (ap (λ (b : Bor Segment). root_team b.now.label) e ∙ team)
          (subst (λ (b : Bor Segment). IsRacingPair b.now their c.args.lines) (sym e) racing)) c.if-racing.false))
      | inr (inl less) ↦ c.loop-own.invariant k own less found their listed team racing
      | inr (inr above) ↦ absurd (omega (arith, above, below))
    ]

pub returns-in_default : goal.returns-in_default
returns-in_default c = λ own their own_in their_in path team racing. absurd (not_found (λ v. HasOne own v.now.items) c.of_task.result c.in_default.is (c.of_task.ensures own own_in path))

pub returns : goal.returns
returns c = λ own their own_in their_in path team racing.
    let has = subst (λ (l : List (Bor Segment)). HasOne own l) (sym c.deref-own-items.ensures.value)
    (found_has (λ v. HasOne own v.now.items) c.of_task.result c.in-Some.owns c.in-Some.is (c.of_task.ensures own own_in path)) in
    absurd (c.loop-own.invariant has.listed.0 has.one (omega (arith, has.listed.1, c.loop-own-test.false)) (contains_at c.deref-own-items.result.now has.one has.listed) their their_in
    (ap (λ (s : Segment). root_team s.label) has.same ∙ team) (subst (λ (s : Segment). IsRacingPair s their c.args.lines) (sym has.same) racing))
