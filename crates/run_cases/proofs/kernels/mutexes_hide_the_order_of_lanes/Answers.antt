use Rattle.run_cases.proofs.LockedLanes.{locked_kernel}
use Rattle.run_cases.proofs.kernels.mutexes_hide_the_order_of_lanes.Goals as goal

pub returns : goal.returns
returns c = locked_kernel
