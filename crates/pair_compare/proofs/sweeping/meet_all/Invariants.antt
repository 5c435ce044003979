use Rattle.std.proofs.Common.{take}
use Rattle.pair_compare.specs.Conflict.{AddsPairs, OneHas}
use Rattle.pair_compare.specs.Sweeps.{IsHullPair}
use Rattle.pair_compare.proofs.sweeping.meet_all.Given as goal

abbrev pub invariant-loop-other : goal.invariant-loop-other
invariant-loop-other l = AddsPairs l.initial.pairs.keys l.pairs.keys (OneHas (IsHullPair l.hull) (take l.other-index l.others))
