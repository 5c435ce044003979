use Rattle.std.proofs.Common.{◌≡◌, List, inl, inr, ap, sym, subst, ◌∙◌, arith}
use Rattle.std.specs.Borrow.{Bor}
use Rattle.std.specs.Prelude.{slice_get}
use Rattle.std.proofs.lemmas.Bool.{cases_order}
use Rattle.std.proofs.lemmas.Option.{same_Some}
use Rattle.log_segment.specs.declared.segment.Segment.{Segment}
use Rattle.explain.specs.Filed.{HasOne}
use Rattle.explain.specs.Suspects.{IsRunWithin, MayMeet, root_team}
use Rattle.explain.proofs.Answering.{contains_at, place_is}
use Rattle.explain.proofs.Filing.{found_has, not_found}
use Rattle.explain.proofs.Kept.{among_more}
use Rattle.explain.proofs.suspecting.met_by.Goals as goal

pub loop-suspect-preserved : goal.loop-suspect-preserved
loop-suspect-preserved c = λ k own below found within their their_in team may.
    let item = place_is c.deref-suspect-items.result.now c.loop-suspect.suspect-index c.suspect-item.result c.loop-suspect-test.true c.suspect-item.is in
    elim (cases_order k c.loop-suspect.suspect-index) [
      | inl same ↦ (let e : own ≡ c.suspect-item.result = sym (same_Some c.suspect-item.result own (sym item ∙ (ap (slice_get c.deref-suspect-items.result.now) (sym same) ∙ found))) in
          let is : own.now ≡ c.segment-own.result.now = ap (λ (b : Bor Segment). b.now) e ∙ sym c.segment-own.ensures in
          c.in_ok-add_met_within.ensures.met (subst (λ (s : Segment). IsRunWithin s.path s.first s.last c.args.path.now c.args.number) is within) their their_in
          (ap (λ (s : Segment). root_team s.label) (sym is) ∙ team) (subst (λ (s : Segment). MayMeet s their c.args.one.now c.args.lines) is may))
      | inr (inl less) ↦ among_more their c.loop-suspect.met.items c.add_met_within.new.met.items c.in_ok-add_met_within.ensures.old (c.loop-suspect.invariant k own less found within their their_in team may)
      | inr (inr above) ↦ absurd (omega (arith, above, below))
    ]

pub returns-in_default : goal.returns-in_default
returns-in_default c = λ own their own_in their_in team within may. absurd (not_found (λ v. HasOne own v.now.items) c.of_task.result c.in_default.is (c.of_task.ensures own own_in within.path_is))

pub returns : goal.returns
returns c = λ own their own_in their_in team within may.
    let has = subst (λ (l : List (Bor Segment)). HasOne own l) (sym c.deref-suspect-items.ensures.value)
    (found_has (λ v. HasOne own v.now.items) c.of_task.result c.in-Some.owns c.in-Some.is (c.of_task.ensures own own_in within.path_is)) in
    c.loop-suspect.invariant has.listed.0 has.one (omega (arith, has.listed.1, c.loop-suspect-test.false)) (contains_at c.deref-suspect-items.result.now has.one has.listed)
    (subst (λ (s : Segment). IsRunWithin s.path s.first s.last c.args.path.now c.args.number) (sym has.same) within) their their_in
    (ap (λ (s : Segment). root_team s.label) has.same ∙ team) (subst (λ (s : Segment). MayMeet s their c.args.one.now c.args.lines) (sym has.same) may)
