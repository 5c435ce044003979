use Rattle.std.proofs.Common.{ℕ, length}
use Rattle.segment_groups.specs.Level.{IsInLaterLane, IsLevel, Labels}
use Rattle.segment_groups.proofs.Chains.{HasPassed, positions_left}
use Rattle.segment_groups.proofs.level.Level.hand_over.Given as goal

abbrev pub invariant-chain : goal.invariant-chain
invariant-chain g l = (depth : ℕ) (labels : Labels) → IsLevel depth labels l.self → HasPassed g.V.Partner.took (IsInLaterLane depth labels l.at) l.cursor l.initial.visit l.visit l.initial.steps l.steps

abbrev pub decreases-chain : goal.decreases-chain
decreases-chain g l = positions_left (length l.self.next.items) l.cursor
