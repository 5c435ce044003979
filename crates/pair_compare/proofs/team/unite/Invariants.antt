use Rattle.std.proofs.Common.{Contains, map}
use Rattle.std.specs.Map.Iter.{deref}
use Rattle.pair_compare.specs.Conflict.{AddsPairs, AddsSome}
use Rattle.pair_compare.proofs.team.unite.Given as goal

abbrev pub invariant-loop-pair : goal.invariant-loop-pair
invariant-loop-pair l = AddsPairs l.initial.pairs.keys l.pairs.keys (Contains (map deref l.yielded)) × AddsSome l.initial.pairs.keys l.pairs.keys (Contains l.more.keys)
