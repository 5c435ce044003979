use Rattle.std.proofs.Common.{◌≡◌}
use Rattle.shared_tests.specs.Turns.{AreParted, IsIdle, IsOut}
use Rattle.shared_tests.proofs.tests.parcels.collect_all.Given as goal

abbrev pub invariant-loop-lane : goal.invariant-loop-lane
invariant-loop-lane g l = (l.desk.table ≡ l.parcels) × AreParted 64 l.lane IsIdle IsOut l.desk.turns
