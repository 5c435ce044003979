use Rattle.std.proofs.Common.{◌≡◌, false, rules}
use Rattle.pair_compare.proofs.Activity.{adds_none}
use Rattle.pair_compare.proofs.sweeping.meet_if.Goals as goal

pub returns : goal.returns
returns c =
    let never : c.args.may ≡ false = search rules in
    adds_none c.args.pairs.now.keys c.args.hull.now c.args.others.now (c.requires never)
