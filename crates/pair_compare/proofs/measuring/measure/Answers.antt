use Rattle.std.proofs.Common.{◌<◌, length, arith}
use Rattle.pair_compare.proofs.Members.{same_groups, same_more}
use Rattle.pair_compare.proofs.measuring.measure.Goals as goal

pub loop-group-preserved : goal.loop-group-preserved
loop-group-preserved g c = λ pair.
    let inside : c.loop-group.group-index < length c.loop-group.group-items = omega (arith, c.loop-group-test.true, c.loop-group.auto.group-items) in
    let one = same_more c.loop-group.group-items c.loop-group.group-index c.group-item.result c.measure_long.new.group pair inside c.measure_long.ensures in
    let before = c.loop-group.invariant pair in
    (λ h. before.0 (one.0 h), λ h. one.1 (before.1 h))

pub returns-clause-same : goal.returns-clause-same
returns-clause-same g c = λ pair.
    let first = same_groups c.args.groups.now c.measure_all_short.new.groups c.measure_all_short.ensures.count (λ i d inside. (c.measure_all_short.ensures.same i d inside).same) pair in
    let then = c.loop-group.invariant pair in
    (λ h. first.0 (then.0 h), λ h. then.1 (first.1 h))
