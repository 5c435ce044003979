use Rattle.std.proofs.Common.{◌≡◌}
use Rattle.shared_tests.specs.Turns.{AreParted, IsIdle, IsOut}
use Rattle.shared_tests.proofs.tests.parcels.send_all.Given as goal

abbrev pub invariant-loop-lane : goal.invariant-loop-lane
invariant-loop-lane l = (l.desk.table ≡ l.parcels) × AreParted 64 l.lane IsOut IsIdle l.desk.turns
