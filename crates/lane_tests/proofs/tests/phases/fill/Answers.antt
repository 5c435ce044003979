use Rattle.lane_tests.proofs.tests.phases.fill.Goals as goal

pub loop-preserved : goal.loop-preserved
loop-preserved g c = c.in_ok-meet.ensures.can c.args.world.now c.loop.invariant
