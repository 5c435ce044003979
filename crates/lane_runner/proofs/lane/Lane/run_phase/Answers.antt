use Rattle.std.proofs.Common.{ap}
use Rattle.lane_runner.specs.Lane.{LaneValue}
use Rattle.lane_runner.proofs.Executing.{executed, forks_same}
use Rattle.lane_runner.proofs.lane.Lane.run_phase.Goals as goal

pub run_phase-answer-requires-clause-runs : goal.run_phase-answer-requires-clause-runs
run_phase-answer-requires-clause-runs g c κs within = forks_same _ _ _ _ _ _ _ (ap (λ (m : LaneValue). m.buffer) c.self.view_is) c.requires.runs

pub returns-clause-executed : goal.returns-clause-executed
returns-clause-executed g c =
    executed c.args.world.now c.args.phase.now c.args.self.now _ c.note.new.self c.self.view_is c.requires.can c.run_phase-answer.new.self.locals.slots.items c.run_phase-answer.new.self.track c.run_phase-answer.result c.note.ensures.notes
    c.run_phase-answer.ensures.goes c.run_phase-answer.ensures.log c.run_phase-answer.ensures.loops c.run_phase-answer.ensures.ready c.run_phase-answer.ensures.can
