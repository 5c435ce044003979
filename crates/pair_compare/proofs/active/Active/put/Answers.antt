use Rattle.pair_compare.proofs.Activity.{adds_a_read, adds_a_write, adds_an_update}
use Rattle.pair_compare.proofs.active.Active.put.Goals as goal
use Rattle.std.proofs.Common.{refl}

pub returns-then-hull : goal.returns-then-hull
returns-then-hull c = adds_an_update c.args.hull.now c.args.self.now _ c.requires c.if-hull.true c.in_ok-push.ensures.items refl refl

pub returns-then-hull-2 : goal.returns-then-hull-2
returns-then-hull-2 c = adds_a_write c.args.hull.now c.args.self.now _ c.requires c.in_ok-push-2.ensures.items refl refl

pub returns : goal.returns
returns c = adds_a_read c.args.hull.now c.args.self.now _ c.requires c.if-hull-2.false c.in_ok-push-3.ensures.items refl refl
