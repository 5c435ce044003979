-- The parts of a body as the code lists them first, not numbered yet.
use Rattle.std.specs.Prelude.{◌≡◌, List, ◌++◌, map, All}
use Rattle.team_phases.specs.declared.unrolling.Piece.{Piece}
use Rattle.team_phases.specs.declared.unrolling.Piece.TheVariants as piece
use Rattle.team_phases.specs.declared.phasing.Phasing.{Phasing}
use Rattle.kernel_model.specs.Parts.{Part, Set, Bar, drawn_count}
use Rattle.kernel_model.specs.Phases.{part_of_stmt, part_of, items_in, EndsInBar, IsNoBar, HaveNumbers}

-- the part that a piece is
abbrev pub part_of_piece : Piece → Part
part_of_piece (piece.Set slot value) = Set slot value
part_of_piece (piece.Run stmt) = part_of_stmt stmt.now
part_of_piece (piece.Bar line) = Bar line

-- the phases so far are these parts; the last goes on and has no barrier yet
pub record IsPhasing (parts : List Part) (p : Phasing) : Type 0 where
  pub parts_are : map part_of (items_in p.ended.items ++ p.items.items) ≡ parts
  pub each : All EndsInBar p.ended.items
  pub goes_on : All IsNoBar p.items.items
  pub drawn_is : p.drawn ≡ drawn_count parts
  pub numbered : HaveNumbers (items_in p.ended.items ++ p.items.items)
