use Rattle.lane_runner.specs.Going.{CanGo}
use Rattle.lane_tests.proofs.tests.phases.fill.Given as goal

abbrev pub invariant-loop : goal.invariant-loop
invariant-loop g l = CanGo l.world l.track
