use Rattle.std.proofs.Common.{◌≡◌, ◌+◌, map, take}
use Rattle.kernel_model.specs.Parts.{drawn_count}
use Rattle.kernel_model.specs.Phases.{part_of}
use Rattle.region_runner.proofs.loops.with_drawn.Given as goal

abbrev pub invariant-loop-item : goal.invariant-loop-item
invariant-loop-item l = record { count : l.count ≡ l.fn.count + drawn_count (map part_of (take l.item-index l.items)) }
