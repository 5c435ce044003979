use Rattle.std.proofs.Common.{◌≡◌, ◌+◌, ◌*◌, ◌≤◌, length, take}
use Rattle.kernel_text.specs.Grammar.{NoMore}
use Rattle.kernel_parser.specs.Trees.{stmt_before, stmts_of}
use Rattle.kernel_reader.specs.Folding.{IsLeft}
use Rattle.kernel_reader.proofs.Sizes.{size}
use Rattle.kernel_reader.proofs.place.Known.+statements.Given as goal

abbrev pub decreases-critical_of_stmt : goal.decreases-critical_of_stmt
decreases-critical_of_stmt l = 3 * size (stmts_of l.body.now.stmts.items) + 3

abbrev pub decreases-critical_stmt : goal.decreases-critical_stmt
decreases-critical_stmt l = 3 * size (stmts_of l.body.now.stmts.items) + 3

abbrev pub decreases-for_stmt : goal.decreases-for_stmt
decreases-for_stmt l = 3 * size (stmts_of l.body.now.stmts.items) + 3

abbrev pub decreases-if_else_stmt : goal.decreases-if_else_stmt
decreases-if_else_stmt l = 3 * (size (stmts_of l.yes.now.stmts.items) + size (stmts_of l.no.now.stmts.items)) + 3

abbrev pub decreases-if_stmt : goal.decreases-if_stmt
decreases-if_stmt l = 3 * size (stmts_of l.yes.now.stmts.items) + 3

abbrev pub decreases-loop_stmt : goal.decreases-loop_stmt
decreases-loop_stmt l = 3 * size (stmts_of l.body.now.stmts.items) + 3

abbrev pub decreases-parallel_stmt : goal.decreases-parallel_stmt
decreases-parallel_stmt l = 3 * size (stmts_of l.body.now.stmts.items) + 3

abbrev pub decreases-stmt : goal.decreases-stmt
decreases-stmt l = 3 * size (stmt_before l.stmt.now NoMore) + 1

abbrev pub decreases-stmts : goal.decreases-stmts
decreases-stmts l = 3 * size (stmts_of l.block.now.stmts.items) + 2

abbrev pub invariant-stmts-stmts : goal.invariant-stmts-stmts
invariant-stmts-stmts l = record {
  left : IsLeft l.self.arrays.now l.self.mutexes.now l.fn.state l.state l.section (stmts_of l.fn.block.stmts.items) (stmts_of l.rest) l.stmts.items l.weight l.works;
  smaller : size (stmts_of l.rest) ≤ size (stmts_of l.fn.block.stmts.items);
  kept : take l.known l.state.variables.items ≡ l.fn.state.variables.items;
  known_is : l.known ≡ length l.fn.state.variables.items;
  light : l.weight ≤ 65537;
}

abbrev pub decreases-stmts-stmts : goal.decreases-stmts-stmts
decreases-stmts-stmts l = length l.rest
