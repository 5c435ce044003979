use Rattle.pair_compare.proofs.Adds.{AddsPairs-next}
use Rattle.pair_compare.proofs.sweeping.meet_all.Goals as goal

pub loop-other-preserved : goal.loop-other-preserved
loop-other-preserved c = AddsPairs-next _ _ _ _ _ _ _ c.loop-other-test.true c.other-item.is c.loop-other.invariant c.in_ok-meet.ensures
