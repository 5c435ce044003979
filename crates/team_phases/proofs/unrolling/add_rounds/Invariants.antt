use Rattle.std.proofs.Common.{◌≡◌, ◌++◌}
use Rattle.std.specs.Prelude.{map}
use Rattle.kernel_model.specs.Iterations.{total_of}
use Rattle.kernel_model.specs.Parts.{unrolled}
use Rattle.team_phases.specs.Pieces.{part_of_piece}
use Rattle.team_phases.proofs.unrolling.add_rounds.Given as goal

abbrev pub invariant-loop-value : goal.invariant-loop-value
invariant-loop-value l =
    map part_of_piece l.pieces.items ++ unrolled (total_of l.value l.to) l.slot l.value (map part_of_piece l.round)
    ≡ map part_of_piece l.fn.pieces.items ++ unrolled (total_of l.from l.to) l.slot l.from (map part_of_piece l.round)
