use Rattle.std.proofs.Common.{◌≡◌, map, take}
use Rattle.std.specs.List.{flat_map}
use Rattle.interval_tree.proofs.tree.Tree.build_all.Given as goal

abbrev pub invariant-loop-part : goal.invariant-loop-part
invariant-loop-part l = map (λ r. r.now) l.runs.items ≡ flat_map (λ p. p.now) (take l.part-index l.parts)
