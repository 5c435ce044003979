use Rattle.kernel_syntax.proofs.Equations.{stmt_code-Critical}
use Rattle.kernel_reader.proofs.statements.made_critical.Goals as goal

pub returns : goal.returns
returns c = stmt_code-Critical c.args.mutex c.args.line c.args.end c.args.body
