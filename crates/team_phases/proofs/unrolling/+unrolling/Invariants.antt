use Rattle.std.proofs.Common.{◌≡◌, ◌++◌, drop}
use Rattle.std.specs.Prelude.{map}
use Rattle.kernel_syntax.specs.Program.{code_of}
use Rattle.kernel_model.specs.Parts.{parts_of}
use Rattle.team_phases.specs.Pieces.{part_of_piece}
use Rattle.team_phases.proofs.unrolling.+unrolling.Given as goal

abbrev pub invariant-add_body-loop-stmt : goal.invariant-add_body-loop-stmt
invariant-add_body-loop-stmt l =
    map part_of_piece l.pieces.items ++ parts_of (code_of (drop l.stmt-index l.stmt-items))
    ≡ map part_of_piece l.fn.pieces.items ++ parts_of (code_of l.fn.body.stmts.items)
