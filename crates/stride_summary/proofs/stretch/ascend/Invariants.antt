use Rattle.std.proofs.Common.{ℕ, ◌+◌, ◌-◌, ◌<◌, ◌≤◌, length, get_or}
use Rattle.stride_summary.proofs.stretch.ascend.Given as goal

abbrev pub invariant-ascend : goal.invariant-ascend
invariant-ascend l = record {
  some : 1 ≤ l.count;
  rising : (place : ℕ) → place + 1 < l.count → get_or l.numbers place 0 < get_or l.numbers (place + 1) 0;
}

abbrev pub decreases-ascend : goal.decreases-ascend
decreases-ascend l = length l.numbers - l.count
