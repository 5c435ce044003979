use Rattle.std.proofs.Common.{◌≡◌, ◌+◌, ◌≤◌, min}
use Rattle.kernel_syntax.specs.Program.{term_of}
use Rattle.task_place.specs.Operands.{left_depth}
use Rattle.task_place.proofs.left.left_depth.Given as goal

-- what was counted and what is left make the whole
abbrev pub invariant-down : goal.invariant-down
invariant-down l = (l.depth ≤ 18446744073709551615) × (min (l.depth + left_depth (term_of l.operand)) 18446744073709551615 ≡ min (left_depth (term_of l.fn.expr)) 18446744073709551615)
