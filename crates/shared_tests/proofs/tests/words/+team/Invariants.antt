use Rattle.std.proofs.Common.{◌+◌, ◌*◌, ◌-◌}
use Rattle.shared_tests.proofs.tests.words.+team.Given as goal

abbrev pub decreases-add_in_threads : goal.decreases-add_in_threads
decreases-add_in_threads g l = 2 * l.threads

abbrev pub decreases-join+arg3 : goal.decreases-join+arg3
decreases-join+arg3 g l = 2 * (l.threads - 1) + 1
