use Rattle.std.proofs.Common.{◌-◌, ◌≤◌, drop, length}
use Rattle.pair_compare.proofs.Swept.{IsSwept}
use Rattle.pair_compare.proofs.sweeping.sweep.Given as goal

abbrev pub invariant-parts : goal.invariant-parts
invariant-parts l = record {
  swept : IsSwept l.from l.hulls (drop l.start l.hulls) l.initial.pairs.keys l.pairs.keys l.active;
  within : l.start ≤ length l.hulls;
}

abbrev pub decreases-parts : goal.decreases-parts
decreases-parts l = length l.hulls - l.start
