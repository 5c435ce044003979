use Rattle.std.proofs.Common.{List, sym, subst, ◌∙◌}
use Rattle.log_segment.specs.declared.segment.Segment.{Segment}
use Rattle.explain.specs.Suspects.{HoldAccesses}
use Rattle.explain.proofs.Answering.{not_so}
use Rattle.explain.proofs.Probing.{no_least}
use Rattle.explain.proofs.explaining.least_among.Goals as goal

pub returns-then-not-racing-clause-explains : goal.returns-then-not-racing-clause-explains
returns-then-not-racing-clause-explains g c = λ x told trace run all.
    no_least trace c.args.lines c.args.segments.now run.keeps all (λ pair. not_so (c.in_ok-racing.ensures pair) c.if-not-racing.true)

pub returns-clause-explains : goal.returns-clause-explains
returns-clause-explains g c = λ x told trace run all.
    c.least_race.ensures.explains x told trace run (subst (λ (xs : List Segment). HoldAccesses trace c.args.lines xs) (sym (c.in_ok-suspects.ensures ∙ (c.deref.ensures.value ∙ c.in_ok-all.ensures))) all)
