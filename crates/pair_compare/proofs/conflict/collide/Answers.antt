use Rattle.std.proofs.Common.{rules, IsTrue}
use Rattle.pair_compare.proofs.conflict.collide.Goals as goal

pub returns-then-disjoint : goal.returns-then-disjoint
returns-then-disjoint c =
    let apart : IsTrue c.disjoint.result = search rules in
    (λ shares. (c.disjoint.ensures.0 apart, c.overlap.ensures.0 shares), λ both. c.overlap.ensures.1 both.1)
