use Rattle.std.proofs.Common.{◌≡◌}
use Rattle.shared_tests.specs.Turns.{AreAll, IsOut}
use Rattle.shared_tests.proofs.tests.parcels.swap_often.Given as goal

abbrev pub invariant-loop-round : goal.invariant-loop-round
invariant-loop-round g l = (l.desk.table ≡ l.parcels) × AreAll 64 IsOut l.desk.turns
