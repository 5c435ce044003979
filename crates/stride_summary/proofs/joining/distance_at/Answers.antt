use Rattle.std.proofs.Common.{◌-◌, arith, rules}
use Rattle.stride_summary.proofs.Joined.{behind_at}
use Rattle.stride_summary.proofs.joining.distance_at.Goals as goal

pub returns-clause-behind : goal.returns-clause-behind
returns-clause-behind c = λ far. behind_at c.args.singles.now (c.args.place - 1) c.args.place c.distance.result (search (rules, arith)) (search (rules, arith)) (c.distance.ensures far)
