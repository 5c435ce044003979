use Rattle.std.proofs.Common.{rules}
use Rattle.pair_compare.proofs.Swept.{before_all}
use Rattle.pair_compare.proofs.sweeping.end_before.Goals as goal

pub returns : goal.returns
returns c so = before_all c.args.block.now c.args.later.now c.in-Some.next.now c.requires (search rules) (c.end_under.ensures so)
