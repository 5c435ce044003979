use Rattle.std.proofs.Common.{◌≡◌, length}
use Rattle.team_live.specs.Turns.{IsIdleDesk}
use Rattle.team_live.proofs.first.stay.Given as goal

abbrev pub invariant-loop-number : goal.invariant-loop-number
invariant-loop-number g l = record {
  desk : IsIdleDesk l.parcels l.span l.desk;
  count : length l.lanes.items ≡ l.span;
  stands : g.K.TeamKey.stands l.number l.hand l.lanes.items;
}
