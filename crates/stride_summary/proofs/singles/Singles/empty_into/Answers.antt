use Rattle.std.proofs.Common.{rules}
use Rattle.stride_summary.proofs.Joined.{adds_within}
use Rattle.stride_summary.proofs.singles.Singles.empty_into.Goals as goal

pub returns-clause-added : goal.returns-clause-added
returns-clause-added c = adds_within c.args.self.now.list.items c.settle.new.self.list.items c.args.runs.now.items c.push_joined.new.runs.items c.settle.ensures.same (search rules)
