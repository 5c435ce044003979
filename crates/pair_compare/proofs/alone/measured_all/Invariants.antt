use Rattle.std.proofs.Common.{take, []}
use Rattle.pair_compare.specs.Conflict.{GrowsBy, OneHas}
use Rattle.pair_compare.specs.Groups.{IsGroupPair}
use Rattle.pair_compare.proofs.alone.measured_all.Given as goal

abbrev pub invariant-loop-group : goal.invariant-loop-group
invariant-loop-group l = GrowsBy (OneHas IsGroupPair []) (OneHas IsGroupPair l.found.items) (OneHas IsGroupPair (take l.group-index l.groups))
