use Rattle.std.proofs.Common.{◌≡◌, length}
use Rattle.std.specs.Prelude.{All}
use Rattle.run_tests.proofs.tests.staying.nesting.fresh.Given as goal

abbrev pub invariant-loop-made : goal.invariant-loop-made
invariant-loop-made g l = (length l.lanes.items ≡ l.made) × All (λ tally. tally.count ≡ 0) l.lanes.items
