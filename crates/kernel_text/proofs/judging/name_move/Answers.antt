use Rattle.kernel_text.proofs.Unfolding.{name-takes}
use Rattle.kernel_text.proofs.judging.name_move.Goals as goal

pub returns-in-Named : goal.returns-in-Named
returns-in-Named c =
    λ s a. rw c.in-Named.is (name-takes c.in-Named.field-0 s a)
