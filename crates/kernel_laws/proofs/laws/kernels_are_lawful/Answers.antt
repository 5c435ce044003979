use Rattle.kernel_laws.proofs.Lawfulness.{kernels_are_lawful}
use Rattle.kernel_laws.proofs.laws.kernels_are_lawful.Goals as goal

pub returns : goal.returns
returns c = kernels_are_lawful
