use Rattle.run_cases.proofs.CertainLanes.{copying_kernel}
use Rattle.run_cases.proofs.kernels.fixed_kernels_may_have_two_runs.Goals as goal

pub returns : goal.returns
returns c = copying_kernel
