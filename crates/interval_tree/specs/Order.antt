-- The order of a tree's runs, and those that a search finds.
use Rattle.std.specs.Prelude.{ℕ, List, Bool, ◌&&◌, nat_le, filter}
use Rattle.std.specs.Ordering.{nat_cmp}
use Rattle.std.specs.List.Sorted.{IsNonDecreasingBy, IsPermutation, IsSortedByKey, IsStableByKey}
use Rattle.stride_summary.specs.declared.run.Run.{Run}
use Rattle.stride_summary.specs.Run.{last_byte}
use Rattle.interval_tree.specs.Reaches.{AreReaches}

abbrev pub first_byte : Run → ℕ
first_byte run = run.base

-- the same runs in order of their first bytes, those with the same one in the order that they had
pub record IsInOrder (runs ordered : List Run) : Type 0 where
  pub ascends : IsSortedByKey first_byte nat_cmp ordered
  pub same : IsPermutation runs ordered
  pub ties : IsStableByKey first_byte nat_cmp runs ordered

-- what a tree keeps of its runs, in order, and their reaches
pub record IsTree (runs : List Run) (reaches : List ℕ) : Type 0 where
  pub ascends : IsNonDecreasingBy first_byte runs
  pub reached : AreReaches reaches runs

-- the run's bytes, from its first to its last, and those from lo to hi have a common one
abbrev pub reaches_into : ℕ → ℕ → Run → Bool
reaches_into lo hi run = nat_le run.base hi && nat_le lo (last_byte run)

abbrev pub met : ℕ → ℕ → List Run → List Run
met lo hi runs = filter (reaches_into lo hi) runs
