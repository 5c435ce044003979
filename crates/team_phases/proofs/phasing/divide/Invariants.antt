use Rattle.std.proofs.Common.{take}
use Rattle.std.specs.Prelude.{map}
use Rattle.team_phases.specs.Pieces.{part_of_piece, IsPhasing}
use Rattle.team_phases.proofs.phasing.divide.Given as goal

abbrev pub invariant-loop-piece : goal.invariant-loop-piece
invariant-loop-piece l = IsPhasing (map part_of_piece (take l.piece-index l.pieces)) l.phasing
