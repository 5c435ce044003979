use Rattle.std.proofs.Common.{◌+◌, ◌*◌}
use Rattle.kernel_syntax.specs.Program.{term_of}
use Rattle.task_place.specs.Operands.{term_size, size_above}
use Rattle.lane_runner.proofs.value.+valuing.Given as goal

-- what is left to evaluate, and by which function
abbrev pub decreases-valued : goal.decreases-valued
decreases-valued g l = 4 * term_size (term_of l.expr.now) + 3

abbrev pub decreases-compound : goal.decreases-compound
decreases-compound g l = 4 * term_size (term_of l.expr.now) + 2

abbrev pub decreases-climb : goal.decreases-climb
decreases-climb g l = 4 * size_above (term_of l.expr.now) l.levels + 1

abbrev pub decreases-top : goal.decreases-top
decreases-top g l = 4 * size_above (term_of l.expr.now) 1
