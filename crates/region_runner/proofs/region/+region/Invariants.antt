use Rattle.std.proofs.Common.{◌+◌, ◌*◌}
use Rattle.region_runner.proofs.region.+region.Given as goal

abbrev pub decreases-region : goal.decreases-region
decreases-region g l = 8 * l.depth + 6

abbrev pub decreases-run_team : goal.decreases-run_team
decreases-run_team g l = 8 * l.depth + 5

abbrev pub decreases-run_phases : goal.decreases-run_phases
decreases-run_phases g l = 8 * l.depth + 4

abbrev pub decreases-run_phases-go_through+arg10 : goal.decreases-run_phases-go_through+arg10
decreases-run_phases-go_through+arg10 g l = 8 * l.depth + 3

abbrev pub decreases-run_part : goal.decreases-run_part
decreases-run_part g l = 8 * l.depth + 2

abbrev pub decreases-run_task : goal.decreases-run_task
decreases-run_task g l = 8 * l.depth + 1

abbrev pub decreases-run_task-run_phase : goal.decreases-run_task-run_phase
decreases-run_task-run_phase g l = 8 * l.depth
