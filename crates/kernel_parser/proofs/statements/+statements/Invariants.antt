use Rattle.std.proofs.Common.{◌+◌, ◌*◌, ◌≤◌, length}
use Rattle.kernel_parser.proofs.Rests.{Leaves}
use Rattle.kernel_parser.proofs.statements.+statements.Given as goal

abbrev pub decreases-block : goal.decreases-block
decreases-block l = 3 * length l.tokens.now

abbrev pub decreases-critical_stmt : goal.decreases-critical_stmt
decreases-critical_stmt l = 3 * length l.tokens.now + 1

abbrev pub decreases-for_stmt : goal.decreases-for_stmt
decreases-for_stmt l = 3 * length l.tokens.now + 1

abbrev pub decreases-if_stmt : goal.decreases-if_stmt
decreases-if_stmt l = 3 * length l.tokens.now + 1

abbrev pub decreases-loop_stmt : goal.decreases-loop_stmt
decreases-loop_stmt l = 3 * length l.tokens.now + 1

abbrev pub decreases-parallel_stmt : goal.decreases-parallel_stmt
decreases-parallel_stmt l = 3 * length l.tokens.now + 1

abbrev pub decreases-stmt : goal.decreases-stmt
decreases-stmt l = 3 * length l.rest.now + 2

abbrev pub invariant-block-stmts : goal.invariant-block-stmts
invariant-block-stmts l = record {
  left : Leaves l.fn.tokens l.opened l.stmts.items l.rest;
  shorter : length l.rest ≤ length l.fn.tokens;
}

abbrev pub decreases-block-stmts : goal.decreases-block-stmts
decreases-block-stmts l = length l.rest
