use Rattle.kernel_syntax.proofs.Equations.{stmt_code-Barrier}
use Rattle.kernel_reader.proofs.statements.made_barrier.Goals as goal

pub returns : goal.returns
returns c = stmt_code-Barrier c.args.line
