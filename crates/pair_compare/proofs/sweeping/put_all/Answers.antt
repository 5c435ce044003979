use Rattle.pair_compare.proofs.Swept.{puts_more, puts_none}
use Rattle.pair_compare.proofs.sweeping.put_all.Goals as goal

pub loop-hull-init : goal.loop-hull-init
loop-hull-init c = puts_none c.args.active.now c.requires c.args.block.now

pub loop-hull-preserved : goal.loop-hull-preserved
loop-hull-preserved c = puts_more c.args.block.now c.loop-hull.hull-index c.hull-item.result c.loop-hull-test.true c.hull-item.is c.args.active.now c.loop-hull.active c.put.new.self c.loop-hull.invariant c.in_ok-put.ensures
