use Rattle.std.proofs.Common.{ℕ, List, Contains, sym, subst, ◌∙◌}
use Rattle.log_segment.specs.declared.segment.Segment.{Segment}
use Rattle.race_model.specs.Race.{pair_cmp}
use Rattle.explain.specs.Filed.{AreFiled, IsFiled}
use Rattle.explain.specs.Suspects.{root_team}
use Rattle.explain.proofs.suspects.Suspects.beside.Goals as goal

pub returns : goal.returns
returns c = λ their listed same.
    let all : AreFiled pair_cmp (λ (s : Segment). root_team s.label) c.self.inside.teams c.self.inside.all.now = c.self.invariant.1 in
    let filed = all their (subst (λ (l : List Segment). Contains l their) (sym c.self.view_is) listed) in
    c.of.ensures their (subst (λ (t : ℕ × ℕ). IsFiled pair_cmp c.self.inside.teams t their) (sym (c.root_team.ensures ∙ same)) filed)
