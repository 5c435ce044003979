use Rattle.std.proofs.Common.{rules}
use Rattle.lane_runner.specs.Going.{CanGo}
use Rattle.lane_runner.proofs.Values.{can_past}
use Rattle.lane_tests.proofs.tests.phases.a_value_is_set_before_the_lanes_meet.Goals as goal

pub step-requires-2-clause-can : goal.step-requires-2-clause-can
step-requires-2-clause-can g c κs =
    let begins : CanGo c.new-world.result c.new-track.result = search rules in
    can_past _ _ _ _ _ _ _ _ begins c.in-Ok.ensures.goes
