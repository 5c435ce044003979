use Rattle.std.proofs.Common.{Option, ap, subst, ◌∙◌}
use Rattle.std.proofs.lemmas.Result.{IfOk-weaker}
use Rattle.explain.specs.Witness.{FindsNamed}
use Rattle.explain.specs.declared.finding.Found.{Found}
use Rattle.explain.proofs.Answering.{none_is_some}
use Rattle.explain.proofs.Witnesses.{named_within, named_found, told_race}
use Rattle.explain.proofs.confirming.confirm_among.Goals as goal

pub returns-in_default-clause-confirmed : goal.returns-in_default-clause-confirmed
returns-in_default-clause-confirmed g c = λ x told trace run byte.
    (λ never. absurd (none_is_some byte never), λ k. absurd (named_within trace c.args.rows.now run.rows_are c.args.one.row c.args.one.number k.x k.left c.in_default.ensures))

pub returns-in_default-place_of-clause-confirmed : goal.returns-in_default-place_of-clause-confirmed
returns-in_default-place_of-clause-confirmed g c = λ x told trace run byte.
    (λ never. absurd (none_is_some byte never), λ k. absurd (named_within trace c.args.rows.now run.rows_are c.args.other.row c.args.other.number k.y k.right c.in_default-place_of.ensures))

pub returns-in_default-found-clause-confirmed : goal.returns-in_default-found-clause-confirmed
returns-in_default-found-clause-confirmed g c = λ x told trace run byte. (
  λ never. absurd (none_is_some byte never),
  λ k. let none = subst (λ (o : Option Found). FindsNamed trace c.in-Some.first c.args.one.number o) c.in_default-found.is (c.in_ok-found.ensures.finds x told trace run) in
      absurd (named_found trace c.in-Some.first c.args.one.row c.args.one.number k.x k.r c.in-Some.ensures.0 none k.left k.race.left),
)

pub returns-in_default-beside-clause-confirmed : goal.returns-in_default-beside-clause-confirmed
returns-in_default-beside-clause-confirmed g c = λ x told trace run byte. (
  λ never. absurd (none_is_some byte never),
  λ k. let finds = c.in_ok-beside.ensures.finds x (ap (λ s. s.content) c.in_ok-found.ensures.reads.same ∙ told) trace run in
      let none = subst (λ (o : Option Found). FindsNamed trace c.in-Some-place_of.second c.args.other.number o) c.in_default-beside.is finds in
      absurd (named_found trace c.in-Some-place_of.second c.args.other.row c.args.other.number k.y k.s c.in-Some-place_of.ensures.0 none k.right k.race.right),
)

pub returns-clause-confirmed : goal.returns-clause-confirmed
returns-clause-confirmed g c = λ x told trace run.
    let mine = subst (λ (o : Option Found). FindsNamed trace c.in-Some.first c.args.one.number o) c.in-Some-found.is (c.in_ok-found.ensures.finds x told trace run) in
    let after = ap (λ s. s.content) c.in_ok-found.ensures.reads.same ∙ told in
    let yours = subst (λ (o : Option Found). FindsNamed trace c.in-Some-place_of.second c.args.other.number o) c.in-Some-beside.is (c.in_ok-beside.ensures.finds x after trace run) in
    IfOk-weaker c.race_of.result _ _
    (λ answer races byte. told_race trace c.in-Some.first c.in-Some-place_of.second c.args.one.row c.args.one.number c.args.other.row c.args.other.number
    c.in-Some.ensures.0 c.in-Some-place_of.ensures.0 c.in-Some-found.mine c.in-Some-beside.yours mine.0 yours.0 mine.1 yours.1 mine.2 yours.2 mine.3 yours.3 answer byte (races byte))
    (c.race_of.ensures.races x (ap (λ s. s.content) c.in_ok-beside.ensures.reads.same ∙ after) trace run mine.0 yours.0 mine.1 yours.1 mine.3 yours.3)
