use Rattle.std.proofs.Common.{not, ap}
use Rattle.pair_compare.proofs.Activity.{settles}
use Rattle.pair_compare.proofs.active.Active.settle.Goals as goal

pub returns : goal.returns
returns c = settles c.args.hull.now c.args.self.now _ (not c.args.hull.now.run.now.atomic) c.requires (λ plain. ap not plain) c.settle.ensures c.settle-2.ensures c.settle-3.ensures
