use Rattle.std.proofs.Common.{ℕ, ◌+◌, ◌^◌, ◌<◌, ◌≤◌, length, take}
use Rattle.pair_compare.specs.Conflict.{AddsPairs, IsPairOfRuns}
use Rattle.segment_groups.specs.Search.{searches_cost}
use Rattle.segment_groups.proofs.searching.search_for_all.Given as goal

abbrev pub invariant-loop-run : goal.invariant-loop-run
invariant-loop-run g l =
    AddsPairs l.initial.pairs.keys l.pairs.keys (IsPairOfRuns l.tree (take l.run-index l.runs))
    × ((digits : ℕ) → length l.tree < 2 ^ digits → l.steps ≤ l.initial.steps + searches_cost l.tree digits (take l.run-index l.runs))
