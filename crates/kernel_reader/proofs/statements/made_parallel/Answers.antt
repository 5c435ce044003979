use Rattle.kernel_syntax.proofs.Equations.{stmt_code-Parallel}
use Rattle.kernel_reader.proofs.statements.made_parallel.Goals as goal

pub returns : goal.returns
returns c = stmt_code-Parallel _
