use Rattle.std.proofs.Common.{◌+◌, ◌*◌}
use Rattle.run_tests.proofs.tests.staying.nesting.+nested.Given as goal

abbrev pub decreases-count_phases : goal.decreases-count_phases
decreases-count_phases g l = 2 * l.depth

abbrev pub decreases-nested : goal.decreases-nested
decreases-nested g l = 2 * l.depth + 1
