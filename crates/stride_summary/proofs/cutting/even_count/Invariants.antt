use Rattle.std.proofs.Common.{◌≡◌, ℕ, ◌+◌, ◌-◌, ◌<◌, ◌≤◌, length, get_or}
use Rattle.stride_summary.proofs.cutting.even_count.Given as goal

abbrev pub invariant-even : goal.invariant-even
invariant-even l = record {
  two : 2 ≤ l.count;
  within : l.count ≤ length l.addresses;
  even : (place : ℕ) → place + 1 < l.count → get_or l.addresses (place + 1) 0 - get_or l.addresses place 0 ≡ get_or l.addresses 1 0 - get_or l.addresses 0 0;
}

abbrev pub decreases-even : goal.decreases-even
decreases-even l = length l.addresses - l.count
