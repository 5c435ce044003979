-- A phase may be shared by the threads of a team.
use denote.Param.Send.{IsSync, sendable}
use Rattle.std.proofs.Crossing as heap
use Rattle.kernel_syntax.specs.contracts.syntax.Stmt as stmt_at
use Rattle.kernel_syntax.proofs.syntax.Expr.TheLaws.TheKnot as expr_knot
use Rattle.kernel_syntax.proofs.syntax.Stmt.TheLaws.TheKnot as stmt_knot
use Rattle.kernel_model.specs.contracts.phase.Item as item_at
use Rattle.kernel_model.specs.contracts.phase.Phase as phase_at

stmt_sync : IsSync stmt_at.the_row
stmt_sync = search (sendable, heap.crosses, stmt_knot.crosses, expr_knot.crosses) depth 40

item_sync : (l : _) → IsSync (item_at.the_row l)
item_sync l = search (sendable, heap.crosses, stmt_sync) depth 40

pub phase_sync : (l : _) → IsSync (phase_at.the_row l)
phase_sync l = search (sendable, heap.crosses, item_sync) depth 40
