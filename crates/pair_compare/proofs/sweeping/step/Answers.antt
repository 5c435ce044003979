use Rattle.std.proofs.lemmas.Result.{on_ok_weaker}
use Rattle.pair_compare.proofs.Activity.{adds_reached}
use Rattle.pair_compare.proofs.sweeping.step.Goals as goal

pub returns-clause-added : goal.returns-clause-added
returns-clause-added c = on_ok_weaker c.meet_active.result (λ adds. adds_reached c.args.pairs.now.keys c.meet_active.new.pairs.keys c.args.from c.args.hull.now c.settle.new.self c.args.active.now c.settle.ensures adds) c.meet_active.ensures
