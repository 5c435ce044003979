use Rattle.lane_runner.proofs.OwnWords.{bounded_world}
use Rattle.lane_runner.proofs.laws.arrays_of_a_kernel_have_words.Goals as goal

pub returns : goal.returns
returns c = bounded_world
