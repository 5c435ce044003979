use Rattle.std.proofs.Common.{take}
use Rattle.pair_compare.specs.Sweeps.{AddsHulls}
use Rattle.pair_compare.proofs.sweeping.put_all.Given as goal

abbrev pub invariant-loop-hull : goal.invariant-loop-hull
invariant-loop-hull l = AddsHulls (take l.hull-index l.block) l.initial.active l.active
