use Rattle.std.proofs.Common.{◌≡◌, ◌-◌}
use Rattle.kernel_syntax.specs.Program.{term_of}
use Rattle.task_place.specs.Operands.{left_by}
use Rattle.task_place.proofs.left.left_by.Given as goal

-- what is left to go down leads to the same operand
abbrev pub invariant-down : goal.invariant-down
invariant-down l = left_by (term_of l.operand) (l.levels - l.counter) ≡ left_by (term_of l.fn.expr) l.levels
