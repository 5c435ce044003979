use Rattle.kernel_text.proofs.Unfolding.{number-takes}
use Rattle.kernel_text.proofs.judging.number_move.Goals as goal

pub returns-in-Number : goal.returns-in-Number
returns-in-Number c =
    λ s a. rw c.in-Number.is (number-takes c.in-Number.field-0 s a)
