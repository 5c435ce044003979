use Rattle.std.proofs.Common.{rules}
use Rattle.lane_runner.specs.Going.{CanGo}
use Rattle.lane_tests.proofs.tests.phases.a_barrier_and_an_end_are_recorded.Goals as goal

pub finish-requires-clause-puts : goal.finish-requires-clause-puts
finish-requires-clause-puts g c κs =
    let begins : CanGo c.new-world.result c.new-track.result = search rules in
    let met = c.in-Ok.ensures.can c.new-world.result begins in
    record { there = met.belongs.there; unrefused = met.unrefused }
