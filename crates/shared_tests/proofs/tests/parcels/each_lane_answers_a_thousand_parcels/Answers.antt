use Rattle.shared_tests.proofs.Turning.{all_idle}
use Rattle.shared_tests.proofs.tests.parcels.each_lane_answers_a_thousand_parcels.Goals as goal

pub all_at_once-requires-clause-idle : goal.all_at_once-requires-clause-idle
all_at_once-requires-clause-idle g c lifetimes = all_idle 64 c.in_ok-parcels.desk.turns c.in_ok-parcels.ensures.turns
