use Rattle.run_cases.proofs.CertainLanes.{certain_kernel}
use Rattle.run_cases.proofs.kernels.some_kernels_are_certain.Goals as goal

pub returns : goal.returns
returns c = certain_kernel
