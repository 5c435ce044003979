use Rattle.kernel_syntax.proofs.Equations.{stmt_code-Update}
use Rattle.kernel_reader.proofs.statements.made_update.Goals as goal

pub returns : goal.returns
returns c = stmt_code-Update c.args.array c.args.index c.args.value c.args.minus c.args.line c.args.site
