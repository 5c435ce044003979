use Rattle.std.proofs.Common.{◌≡◌, refl, ap, sym, ◌∙◌, subst, ◌<◌, ◌≤◌, ◌++◌, ◌∷◌, [], length, arith, rules, Bool, false, List, ℤ, w64, to_z, of_z, OnOk, Option, Some, None}
use Rattle.std.specs.Prelude.{map}
use Rattle.std.proofs.lemmas.Int.{to_z-of_z}
use Rattle.kernel_syntax.specs.Program.{code_of}
use Rattle.kernel_model.specs.Iterations.{total_of}
use Rattle.kernel_model.specs.Parts.{Part, unrolled, parts_of, end_parts}
use Rattle.team_phases.specs.declared.unrolling.Piece.{Piece}
use Rattle.kernel_model.specs.Phases.{part_of_stmt}
use Rattle.team_phases.specs.Pieces.{part_of_piece}
use Rattle.team_phases.proofs.BodyParts.{parts_at, stmts_last, pushed, then_bar}
use Rattle.team_phases.proofs.StmtKinds.{single_part, barrier_parts, for_parts, loop_parts_are}
use Rattle.team_phases.proofs.unrolling.+unrolling.Goals as goal

pub add_body-loop-stmt-preserved : goal.add_body-loop-stmt-preserved
add_body-loop-stmt-preserved t c =
    let within : c.loop-stmt.stmt-index < length c.deref-stmt-items.result.now = omega arith in
    parts_at c.deref-stmt-items.result.now c.loop-stmt.stmt-index c.stmt-item.result (map part_of_piece c.loop-stmt.pieces.items)
    (map part_of_piece c.add_stmt.new.pieces.items) (map part_of_piece c.args.pieces.now.items ++ parts_of (code_of c.args.body.now.stmts.items))
    within c.stmt-item.is c.loop-stmt.invariant c.in_ok-add_stmt.ensures

pub add_body-returns : goal.add_body-returns
add_body-returns t c =
    let done : length c.deref-stmt-items.result.now ≤ c.loop-stmt.stmt-index = omega arith in
    stmts_last c.deref-stmt-items.result.now c.loop-stmt.stmt-index (map part_of_piece c.loop-stmt.pieces.items)
    (map part_of_piece c.args.pieces.now.items ++ parts_of (code_of c.args.body.now.stmts.items)) done c.loop-stmt.invariant

pub add_stmt-returns-in_ok-add_body-in-Some : goal.add_stmt-returns-in_ok-add_body-in-Some
add_stmt-returns-in_ok-add_body-in-Some t c =
    let bounds : Option (ℤ × ℤ) = Some (c.in-Some.first, c.in-Some.end) in
    let is = loop_parts_are c.args.stmt.now c.in-Loop.slot c.in-Loop.from c.in-Loop.to c.in-Loop.body bounds c.in-Loop.is c.in-Some.ensures in
    let body = parts_of (code_of c.in-Loop.body.stmts.items) in
    let round =
    ap (map part_of_piece) c.as_slice.ensures.value
    ∙ c.in_ok-add_body-in-Some.ensures
    ∙ ap (λ (xs : List Piece). map part_of_piece xs ++ body) c.new-round.ensures.items in
    let first = to_z-of_z w64 c.in-Some.first (search rules) in
    let last = to_z-of_z w64 c.in-Some.end (search rules) in
    let turns =
    ap (λ (ps : List Part). unrolled (total_of (to_z w64 (of_z w64 c.in-Some.first)) (to_z w64 (of_z w64 c.in-Some.end))) c.in-Loop.slot (to_z w64 (of_z w64 c.in-Some.first)) ps) round
    ∙ ap (λ (b : ℤ). unrolled (total_of (to_z w64 (of_z w64 c.in-Some.first)) b) c.in-Loop.slot (to_z w64 (of_z w64 c.in-Some.first)) body) last
    ∙ ap (λ (a : ℤ). unrolled (total_of a c.in-Some.end) c.in-Loop.slot a body) first in
    subst (λ (ps : List Part). OnOk c.add_rounds.result (map part_of_piece c.add_rounds.new.pieces.items ≡ map part_of_piece c.args.pieces.now.items ++ ps))
    (turns ∙ sym is) c.add_rounds.ensures

pub add_stmt-returns-in-None : goal.add_stmt-returns-in-None
add_stmt-returns-in-None t c =
    let is = loop_parts_are c.args.stmt.now c.in-Loop.slot c.in-Loop.from c.in-Loop.to c.in-Loop.body None c.in-Loop.is c.in-None.ensures in
    subst (λ (ps : List Part). OnOk c.add_run.result (map part_of_piece c.add_run.new.pieces.items ≡ map part_of_piece c.args.pieces.now.items ++ ps)) (sym is) c.add_run.ensures

pub add_stmt-returns-in_default : goal.add_stmt-returns-in_default
add_stmt-returns-in_default t c =
    let is = single_part c.args.stmt.now c.in_default.not-Loop c.in_default.not-For c.in_default.not-Barrier in
    subst (λ (ps : List Part). OnOk c.add_run-in_default.result (map part_of_piece c.add_run-in_default.new.pieces.items ≡ map part_of_piece c.args.pieces.now.items ++ ps))
    (sym is) c.add_run-in_default.ensures

pub add_stmt-returns-in_ok-push-in-Barrier : goal.add_stmt-returns-in_ok-push-in-Barrier
add_stmt-returns-in_ok-push-in-Barrier t c =
    let old = map part_of_piece c.args.pieces.now.items in
    let is = barrier_parts c.args.stmt.now c.in-Barrier.line c.in-Barrier.is in
    pushed c.args.pieces.now.items c.push-in-Barrier.new.self.items _ old c.in_ok-push-in-Barrier.ensures.items refl
    ∙ ap (λ (ps : List Part). old ++ ps) (sym is)

pub add_stmt-returns-in_ok-push-in-For : goal.add_stmt-returns-in_ok-push-in-For
add_stmt-returns-in_ok-push-in-For t c =
    let old = map part_of_piece c.args.pieces.now.items in
    let is = for_parts c.args.stmt.now c.in-For.slot c.in-For.from c.in-For.to c.in-For.schedule c.in-For.nowait c.in-For.line c.in-For.end c.in-For.body c.in-For.is in
    let ends = ap (λ (b : Bool). part_of_stmt c.args.stmt.now ∷ end_parts b c.in-For.end) c.if-not-nowait.true in
    then_bar old (end_parts false c.in-For.end) (map part_of_piece c.push.new.self.items) (part_of_stmt c.args.stmt.now) c.args.stmt.now (is ∙ ends)
    (pushed c.add_run-in-For.new.pieces.items c.push.new.self.items _ (old ++ part_of_stmt c.args.stmt.now ∷ []) c.in_ok-push-in-For.ensures.items c.in_ok-add_run-in-For.ensures)

pub add_stmt-returns-else-not-nowait : goal.add_stmt-returns-else-not-nowait
add_stmt-returns-else-not-nowait t c =
    let old = map part_of_piece c.args.pieces.now.items in
    let is = for_parts c.args.stmt.now c.in-For.slot c.in-For.from c.in-For.to c.in-For.schedule c.in-For.nowait c.in-For.line c.in-For.end c.in-For.body c.in-For.is in
    let ends = ap (λ (b : Bool). part_of_stmt c.args.stmt.now ∷ end_parts b c.in-For.end) c.if-not-nowait.false in
    c.in_ok-add_run-in-For.ensures ∙ ap (λ (ps : List Part). old ++ ps) (sym (is ∙ ends))
