use Rattle.kernel_syntax.proofs.Equations.{stmt_code-Set}
use Rattle.kernel_reader.proofs.statements.made_set.Goals as goal

pub returns : goal.returns
returns c = stmt_code-Set c.args.slot c.args.value
