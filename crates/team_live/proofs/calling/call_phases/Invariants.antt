use Rattle.std.proofs.Common.{◌≡◌, length}
use Rattle.team_live.proofs.calling.call_phases.Given as goal

abbrev pub invariant-loop-number : goal.invariant-loop-number
invariant-loop-number g l = (length l.lanes.items ≡ l.span) × g.K.TeamKey.stands l.number l.hand l.lanes.items
