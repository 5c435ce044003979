use Rattle.std.proofs.Common.{take}
use Rattle.pair_compare.specs.Conflict.{AddsPairs, OneHas}
use Rattle.pair_compare.specs.Sweeps.{IsReachedPair, DropsOnlyEnded}
use Rattle.pair_compare.proofs.sweeping.meet_block.Given as goal

abbrev pub invariant-loop-hull : goal.invariant-loop-hull
invariant-loop-hull l = record {
  active : DropsOnlyEnded (take l.hull-index l.block) l.initial.active l.active;
  added : AddsPairs l.initial.pairs.keys l.pairs.keys (OneHas (λ hull. IsReachedPair l.from hull l.initial.active) (take l.hull-index l.block));
}
