use Rattle.lane_runner.proofs.Executing.{puts_end}
use Rattle.lane_runner.proofs.lane.Lane.finish.Goals as goal

pub returns-clause-puts : goal.returns-clause-puts
returns-clause-puts g c =
    puts_end c.args.line c.args.self.now _ c.note.new.self c.self.view_is c.finish-answer.new.self c.finish-answer.result c.note.ensures.notes c.finish-answer.ensures.takes c.finish-answer.ensures.log
