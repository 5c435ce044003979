use Rattle.execution_model.proofs.OwnWords.{bounded_widths}
use Rattle.lane_runner.proofs.laws.elements_of_a_kernel_have_widths.Goals as goal

pub returns : goal.returns
returns c = bounded_widths
