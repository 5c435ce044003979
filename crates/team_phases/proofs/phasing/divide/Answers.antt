use Rattle.std.proofs.Common.{◌≡◌, ap, sym, subst, ◌∙◌, ◌<◌, ◌≤◌, ◌+◌, arith, length, List, take, ◌++◌, ◌∷◌, []}
use Rattle.std.specs.Prelude.{map}
use Rattle.std.proofs.lemmas.List.{take_more, take_all, map-append}
use Rattle.kernel_model.specs.Parts.{Part}
use Rattle.team_phases.specs.Pieces.{part_of_piece, IsPhasing}
use Rattle.team_phases.specs.declared.unrolling.Piece.{Piece}
use Rattle.team_phases.proofs.phasing.divide.Goals as goal

pub loop-piece-preserved : goal.loop-piece-preserved
loop-piece-preserved c =
    let within : c.loop-piece.piece-index < length c.args.pieces.now = omega arith in
    let before = take c.loop-piece.piece-index c.args.pieces.now in
    let grown : take (c.loop-piece.piece-index + 1) c.args.pieces.now ≡ before ++ c.piece-item.result ∷ [] =
    take_more c.args.pieces.now c.loop-piece.piece-index c.piece-item.result within ∙ ap (λ (y : Piece). before ++ y ∷ []) (sym c.piece-item.is) in
    subst (λ (ps : List Part). IsPhasing ps c.add.new.self) (sym (ap (map part_of_piece) grown ∙ map-append part_of_piece before (c.piece-item.result ∷ [])))
    (c.in_ok-add.ensures (map part_of_piece before) c.loop-piece.invariant)

pub returns : goal.returns
returns c =
    let done : length c.args.pieces.now ≤ c.loop-piece.piece-index = omega arith in
    c.finish.ensures (map part_of_piece c.args.pieces.now)
    (subst (λ (xs : List Piece). IsPhasing (map part_of_piece xs) c.loop-piece.phasing) (take_all c.loop-piece.piece-index c.args.pieces.now done) c.loop-piece.invariant)
