use Rattle.kernel_syntax.proofs.Equations.{stmt_code-For}
use Rattle.kernel_reader.proofs.statements.made_for.Goals as goal

pub returns : goal.returns
returns c = stmt_code-For c.args.slot _ _ c.args.schedule c.args.nowait c.args.line c.args.end c.args.body
