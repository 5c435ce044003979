use Rattle.std.proofs.Common.{◌≡◌}
use Rattle.shared_tests.specs.Turns.{AreAll, IsOut}
use Rattle.shared_tests.proofs.tests.parcels.swap_all.Given as goal

abbrev pub invariant-loop-step : goal.invariant-loop-step
invariant-loop-step g l = (l.desk.table ≡ l.parcels) × AreAll 64 IsOut l.desk.turns
