use Rattle.std.proofs.Common.{◌≡◌, drop}
use Rattle.execution_model.specs.Elements.{element_width}
use Rattle.lane_runner.proofs.fitting.width_of.Given as goal

abbrev pub invariant-loop-array : goal.invariant-loop-array
invariant-loop-array l = element_width (drop l.array-index l.arrays) l.word ≡ element_width l.fn.arrays l.word
