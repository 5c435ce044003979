use Rattle.kernel_syntax.specs.Program.{program_of}
use Rattle.kernel_laws.proofs.Lawfulness.{kernels_are_lawful}
use Rattle.language_tests.proofs.tests.certainty.kernel_of.Goals as goal

pub returns : goal.returns
returns c = kernels_are_lawful _ (program_of c.in_ok-read_kernel.field-0) c.in_ok-read_kernel.ensures.kernel
