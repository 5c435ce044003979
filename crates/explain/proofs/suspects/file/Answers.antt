use Rattle.std.proofs.Common.{◌≡◌, List, Contains, Bor, Some, None, refl, sym, subst, ◌∙◌}
use Rattle.std.proofs.lemmas.List.Elements.{Contains-push}
use Rattle.std.proofs.lemmas.Option.{same_Some}
use Rattle.log_segment.specs.declared.segment.Segment.{Segment}
use Rattle.explain.proofs.Filing.{filed_more}
use Rattle.explain.proofs.suspects.file.Goals as goal
use Rattle.explain.proofs.suspects.file.Goals.{in-Some, in-None}

pub returns-clause-put : goal.returns-clause-put
returns-clause-put g c = record {
  found = c.push.new.self;
  there = c.in_ok-insert.ensures.updates.1;
  has = record {
    one = c.args.suspect;
    listed = subst (λ (l : List (Bor Segment)). Contains l c.args.suspect) (sym c.in_ok-push.ensures.items) (Contains-push c.match-remove.suspects.items c.args.suspect);
    same = refl;
  };
}

pub returns-clause-old : goal.returns-clause-old
returns-clause-old g c = λ other s h.
    filed_more g.met.K.Ord.total c.args.filed.now c.remove.new.self c.insert.new.self c.args.key c.match-remove.suspects c.push.new.self c.args.suspect
    (λ found is. elim c.match-remove.branch [
      | in-Some w ↦ w.suspects-is ∙ same_Some w.in-Some.suspects found (sym w.in-Some.is ∙ (c.remove.ensures.value ∙ is))
      | in-None w ↦ absurd (let none : None ≡ Some found = sym w.in-None.is ∙ (c.remove.ensures.value ∙ is) in cc)
    ])
    c.remove.ensures.updates c.in_ok-push.ensures.items c.in_ok-insert.ensures.updates other s h
