use Rattle.std.proofs.Common.{take, []}
use Rattle.pair_compare.specs.Conflict.{GrowsBy, OneHas}
use Rattle.pair_compare.specs.Groups.{IsRunOf}
use Rattle.pair_compare.proofs.alone.measured_members.Given as goal

abbrev pub invariant-loop-member : goal.invariant-loop-member
invariant-loop-member l = GrowsBy (OneHas IsRunOf []) (OneHas IsRunOf l.found.items) (OneHas IsRunOf (take l.member-index l.members))
