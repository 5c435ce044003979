use Rattle.std.proofs.lemmas.Result.{on_ok_weaker}
use Rattle.pair_compare.proofs.Swept.{opens_all, opens_none}
use Rattle.pair_compare.proofs.sweeping.put_open.Goals as goal

pub returns-then-end_before : goal.returns-then-end_before
returns-then-end_before c = opens_none c.args.block.now c.args.later.now c.args.active.now c.requires.kinds (c.end_before.ensures c.if-end_before.true)

pub returns : goal.returns
returns c = on_ok_weaker c.put_all.result (λ puts. opens_all c.args.block.now c.args.later.now c.args.active.now c.put_all.new.active puts) c.put_all.ensures
