use Rattle.kernel_syntax.proofs.Equations.{stmt_code-If}
use Rattle.kernel_reader.proofs.statements.made_if.Goals as goal

pub returns : goal.returns
returns c = stmt_code-If c.args.test c.args.yes c.args.no
