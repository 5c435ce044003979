use Rattle.kernel_laws.proofs.Exactness.{rules_are_exact}
use Rattle.kernel_laws.proofs.laws.rules_are_exact.Goals as goal

pub returns : goal.returns
returns c = rules_are_exact
