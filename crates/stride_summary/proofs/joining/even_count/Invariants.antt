use Rattle.std.proofs.Common.{◌-◌, ◌^◌, ◌<◌, ◌≤◌, length}
use Rattle.stride_summary.proofs.Joined.{AreEven}
use Rattle.stride_summary.proofs.joining.even_count.Given as goal

abbrev pub invariant-even : goal.invariant-even
invariant-even l = record {
  some : 1 ≤ l.count;
  within : l.count ≤ length l.singles;
  small : l.count < 2 ^ 32;
  apart : 2 ≤ l.count → 0 < l.distance;
  even : AreEven l.singles l.distance l.count;
}

abbrev pub decreases-even : goal.decreases-even
decreases-even l = length l.singles - l.count
