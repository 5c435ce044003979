use Rattle.kernel_rules.proofs.SameBarriers.{ended_barriers, most_barriers, same_barriers}
use Rattle.kernel_rules.proofs.lawful.lanes_meet_the_same_barriers.Goals as goal

pub returns : goal.returns
returns c = record { ended = ended_barriers; stopped = most_barriers; same = same_barriers }
