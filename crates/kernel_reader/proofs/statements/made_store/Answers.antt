use Rattle.kernel_syntax.proofs.Equations.{stmt_code-Store}
use Rattle.kernel_reader.proofs.statements.made_store.Goals as goal

pub returns : goal.returns
returns c = stmt_code-Store c.args.array c.args.index c.args.value c.args.line c.args.site
