use Rattle.std.proofs.Common.{length, ◌-◌}
use Rattle.pair_compare.proofs.crowding.count_less.Given as goal

abbrev pub decreases-less : goal.decreases-less
decreases-less l = length l.bytes - l.count
