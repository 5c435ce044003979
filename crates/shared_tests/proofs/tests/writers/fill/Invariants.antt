use Rattle.std.proofs.Common.{◌≡◌, ◌<◌, length}
use Rattle.shared_tests.proofs.tests.writers.fill.Given as goal

abbrev pub invariant-loop : goal.invariant-loop
invariant-loop l = (l.block.size ≡ l.fn.block.size) × (0 < length l.block.bytes)
