use Rattle.serial_run.specs.Stepping.{stand}
use Rattle.serial_team.specs.Members.{seen}
use Rattle.serial_team.specs.Stopping.{bounded}
use Rattle.serial_team.proofs.Stopped.{halts_so, tells_bounded}
use Rattle.serial_team.proofs.member.Member.resume.Goals as goal

pub returns-in-Err-clause-stops : goal.returns-in-Err-clause-stops
returns-in-Err-clause-stops c = λ layout tells.
    halts_so layout c.args.path.now (seen c.args.memory.now c.args.self.now) (stand c.resume.new.self c.resume.new.memory) c.in-Err.halt c.of.result c.of.ensures.tells (c.in-Err.ensures layout tells)
    (c.in-Err.ensures (bounded layout) (tells_bounded c.args.self.now.lane.place.arrays layout tells))
