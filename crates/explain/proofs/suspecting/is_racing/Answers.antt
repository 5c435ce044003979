use Rattle.std.proofs.Common.{List, ap, sym, subst, ◌∙◌}
use Rattle.std.specs.Borrow.{Bor}
use Rattle.std.proofs.lemmas.Result.{IfOk-weaker}
use Rattle.log_segment.specs.declared.segment.Segment.{Segment}
use Rattle.pair_compare.specs.Compare.{IsRacingPair}
use Rattle.explain.specs.Filed.{HasOne}
use Rattle.explain.specs.Suspects.{root_team}
use Rattle.explain.proofs.Filing.{found_has, not_found}
use Rattle.explain.proofs.suspecting.is_racing.Goals as goal

pub returns-in_default : goal.returns-in_default
returns-in_default c = λ their listed team racing.
    absurd (not_found (λ v. HasOne their v.now.items) c.beside.result c.in_default.is (c.beside.ensures their listed (ap (λ (s : Segment). root_team s.label) c.segment-own.ensures ∙ team)))

pub returns : goal.returns
returns c = IfOk-weaker c.meets.result _ _ (λ yes finds their listed team racing.
    let has = found_has (λ v. HasOne their v.now.items) c.beside.result c.in-Some.beside c.in-Some.is (c.beside.ensures their listed (ap (λ (s : Segment). root_team s.label) c.segment-own.ensures ∙ team)) in
    finds their (subst (λ (l : List (Bor Segment)). HasOne their l) (sym c.deref.ensures.value) has) (subst (λ (s : Segment). IsRacingPair s their c.args.lines) (sym c.segment-own.ensures) racing))
    c.meets.ensures
