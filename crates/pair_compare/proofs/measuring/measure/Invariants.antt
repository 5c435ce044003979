use Rattle.std.proofs.Common.{◌↔◌, ℕ}
use Rattle.pair_compare.specs.Conflict.{OneHas}
use Rattle.pair_compare.specs.Groups.{IsGroupPair}
use Rattle.pair_compare.proofs.measuring.measure.Given as goal

abbrev pub invariant-loop-group : goal.invariant-loop-group
invariant-loop-group g l = (pair : ℕ × ℕ) → OneHas IsGroupPair l.group-items pair ↔ OneHas IsGroupPair l.initial.group-items pair
