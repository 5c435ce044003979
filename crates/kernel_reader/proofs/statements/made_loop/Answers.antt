use Rattle.kernel_syntax.proofs.Equations.{stmt_code-Loop}
use Rattle.kernel_reader.proofs.statements.made_loop.Goals as goal

pub returns : goal.returns
returns c = stmt_code-Loop c.args.slot c.args.from c.args.to c.args.body
