use Rattle.std.proofs.Common.{rules, get_or, Contains, below_more, refl}
use Rattle.mutex_set.specs.Held.{AreDisjoint}
use Rattle.mutex_set.proofs.Sets.{not_disjoint, none_in_both}
use Rattle.mutex_set.proofs.held.Held.disjoint.Goals as goal

pub returns-then-contains : goal.returns-then-contains
returns-then-contains c =
    let found : Contains c.ids-others.result.now (get_or c.ids-id-items.result.now c.loop-id.id-index 0) = search rules in (
      λ no. absurd (cc),
      λ disjoint.
          let same : AreDisjoint c.ids-id-items.result.now c.ids-others.result.now = rw (c.ids-id-items.ensures.ids, c.ids-others.ensures.ids) disjoint in
          absurd (not_disjoint _ _ c.loop-id.id-index c.loop-id-test.true found same),
    )

pub loop-id-preserved : goal.loop-id-preserved
loop-id-preserved c =
    let absent : Contains c.ids-others.result.now (get_or c.ids-id-items.result.now c.loop-id.id-index 0) → ⊥ = search rules in
    below_more _ _ c.loop-id.invariant absent

pub returns : goal.returns
returns c = (
  λ yes. rw (c.ids-id-items.ensures.ids, c.ids-others.ensures.ids) at (none_in_both c.ids-id-items.result.now c.ids-others.result.now c.loop-id.id-index c.loop-id-test.false c.loop-id.invariant),
  λ disjoint. refl,
)
