use Rattle.log_replay.proofs.DiffersOnce.{one_first}
use Rattle.log_replay.proofs.laws.first_record_that_differs_is_unique.Goals as goal

pub returns : goal.returns
returns c = one_first
