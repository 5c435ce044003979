use Rattle.std.proofs.Common.{◌≡◌, ◌++◌, map, take}
use Rattle.interval_tree.proofs.tree.add_all.Given as goal

abbrev pub invariant-loop-run : goal.invariant-loop-run
invariant-loop-run l = map (λ r. r.now) l.order.items ≡ map (λ r. r.now) l.initial.order.items ++ take l.run-index l.runs
