use Rattle.stride_summary.proofs.Holding.{holds_one_more}
use Rattle.stride_summary.proofs.stretch.Stretch.put.Goals as goal

pub returns-clause-added : goal.returns-clause-added
returns-clause-added c = holds_one_more c.args.self.now.addresses.items c.push_reserved.new.self.items c.args.address c.push_reserved.ensures.items
