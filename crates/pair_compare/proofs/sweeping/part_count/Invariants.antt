use Rattle.std.proofs.Common.{◌≡◌, ℕ, ◌-◌, ◌<◌, ◌≤◌, length, get_or}
use Rattle.pair_compare.specs.declared.hull.Hull.{Hull}
use Rattle.pair_compare.proofs.sweeping.part_count.Given as goal

abbrev pub invariant-alike : goal.invariant-alike
invariant-alike l = record {
  within : (1 ≤ l.count) × (l.count ≤ length l.hulls);
  alike : (i : ℕ) (d : Hull) → i < l.count → (get_or l.hulls i d).part ≡ (get_or l.hulls 0 d).part;
}

abbrev pub decreases-alike : goal.decreases-alike
decreases-alike l = length l.hulls - l.count
