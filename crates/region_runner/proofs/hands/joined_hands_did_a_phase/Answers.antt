use Rattle.region_runner.proofs.JoinedHands.{did_phase}
use Rattle.region_runner.proofs.hands.joined_hands_did_a_phase.Goals as goal

pub returns : goal.returns
returns c = did_phase
