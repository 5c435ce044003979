use Rattle.std.proofs.Common.{List, Contains, sym, subst}
use Rattle.log_segment.specs.declared.segment.Segment.{Segment}
use Rattle.sw_base.specs.Names.{path_cmp}
use Rattle.sw_base.specs.declared.path.Step.{Step}
use Rattle.explain.specs.Filed.{AreFiled, IsFiled}
use Rattle.explain.proofs.suspects.Suspects.of_task.Goals as goal

pub returns : goal.returns
returns c = λ own listed same.
    let all : AreFiled path_cmp (λ (s : Segment). s.path) c.self.inside.tasks c.self.inside.all.now = c.self.invariant.0 in
    let filed = all own (subst (λ (l : List Segment). Contains l own) (sym c.self.view_is) listed) in
    c.of.ensures own (subst (λ (p : List Step). IsFiled path_cmp c.self.inside.tasks p own) same filed)
