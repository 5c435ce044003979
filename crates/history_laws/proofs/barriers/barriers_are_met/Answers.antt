use Rattle.history_laws.proofs.MetBarriers.{barriers_met}
use Rattle.history_laws.proofs.barriers.barriers_are_met.Goals as goal

pub returns : goal.returns
returns c = barriers_met
