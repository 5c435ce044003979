use Rattle.stride_summary.proofs.Storing.{HoldsSame-twice}
use Rattle.stride_summary.proofs.summary.Summary.make_room.Goals as goal

pub returns-clause-same : goal.returns-clause-same
returns-clause-same c = HoldsSame-twice c.args.self.now.stretches.items c.prepare.new.self.stretches.items c.raise.new.self.stretches.items c.prepare.ensures.same c.raise.ensures.same
