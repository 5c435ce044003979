use Rattle.std.proofs.Common.{◌≡◌}
use Rattle.shared_tests.specs.Turns.{AreParted, IsAny, IsIdle}
use Rattle.shared_tests.proofs.tests.parcels.close_all.Given as goal

abbrev pub invariant-loop-lane : goal.invariant-loop-lane
invariant-loop-lane l = (l.desk.table ≡ l.parcels) × AreParted 64 l.lane IsAny IsIdle l.desk.turns
