use Rattle.std.proofs.Common.{take, []}
use Rattle.pair_compare.specs.Conflict.{GrowsBy, OneHas}
use Rattle.pair_compare.specs.Fields.{IsRunIn}
use Rattle.pair_compare.specs.Groups.{IsRunOf}
use Rattle.pair_compare.proofs.parting.members_of.Given as goal

abbrev pub invariant-loop-segment : goal.invariant-loop-segment
invariant-loop-segment l = GrowsBy (OneHas IsRunOf []) (OneHas IsRunOf l.members.items) (OneHas (IsRunIn l.level l.field) (take l.segment-index l.segments))
