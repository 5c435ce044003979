use Rattle.std.proofs.Common.{◌≤◌, rules}
use Rattle.pair_compare.proofs.Reaching.{Adds-hull}
use Rattle.pair_compare.proofs.collecting.add_stretch.Goals as goal

pub returns-in_ok-push : goal.returns-in_ok-push
returns-in_ok-push c =
    let from : c.args.bytes.0 ≤ c.args.task.now.high = search rules in
    let to : c.args.task.now.low ≤ c.args.bytes.1 = search rules in
    Adds-hull c.args.hulls.now.items c.push.new.self.items _ c.args.task.now.low c.args.task.now.high c.in_ok-push.ensures.items from to
