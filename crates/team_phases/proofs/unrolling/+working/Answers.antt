use Rattle.std.proofs.Common.{ap, sym, ◌∙◌, ◌<◌, length, arith, Bool, List, ◌≤◌}
use Rattle.std.specs.Prelude.{◌||◌}
use Rattle.std.proofs.lemmas.List.{drop_all}
use Rattle.kernel_syntax.specs.declared.syntax.Stmt.{Stmt}
use Rattle.kernel_syntax.specs.Program.{code_of}
use Rattle.kernel_model.specs.Lawful.{code_holds_work}
use Rattle.team_phases.proofs.BodyParts.{skips_work, finds_work}
use Rattle.team_phases.proofs.StmtKinds.{no_work, if_work, loop_work, critical_work, for_work, barrier_work}
use Rattle.team_phases.proofs.unrolling.+working.Goals as goal

pub has_work-loop-stmt-preserved : goal.has_work-loop-stmt-preserved
has_work-loop-stmt-preserved t c =
    let within : c.loop-stmt.stmt-index < length c.deref-stmt-items.result.now = omega arith in
    sym (skips_work c.deref-stmt-items.result.now c.loop-stmt.stmt-index c.stmt-item.result within c.stmt-item.is (sym c.if-is_working.ensures)) ∙ c.loop-stmt.invariant

pub has_work-returns : goal.has_work-returns
has_work-returns t c =
    let done : length c.deref-stmt-items.result.now ≤ c.loop-stmt.stmt-index = omega arith in
    sym (ap (λ (ss : List Stmt). code_holds_work (code_of ss)) (drop_all c.loop-stmt.stmt-index c.deref-stmt-items.result.now done)) ∙ c.loop-stmt.invariant

pub has_work-returns-then-is_working : goal.has_work-returns-then-is_working
has_work-returns-then-is_working t c =
    let within : c.loop-stmt.stmt-index < length c.deref-stmt-items.result.now = omega arith in
    sym (finds_work c.deref-stmt-items.result.now c.loop-stmt.stmt-index c.stmt-item.result within c.stmt-item.is (sym c.if-is_working.ensures)) ∙ c.loop-stmt.invariant

pub is_working-returns-in_default : goal.is_working-returns-in_default
is_working-returns-in_default t c =
    sym (no_work c.args.stmt.now c.in_default.not-If c.in_default.not-Loop c.in_default.not-For c.in_default.not-Barrier c.in_default.not-Critical)

pub is_working-returns-in-For : goal.is_working-returns-in-For
is_working-returns-in-For t c =
    sym (for_work c.args.stmt.now c.in-For.slot c.in-For.from c.in-For.to c.in-For.schedule c.in-For.nowait c.in-For.line c.in-For.end c.in-For.body c.in-For.is)

pub is_working-returns-in-Barrier : goal.is_working-returns-in-Barrier
is_working-returns-in-Barrier t c = sym (barrier_work c.args.stmt.now c.in-Barrier.line c.in-Barrier.is)

pub is_working-returns-in-Loop : goal.is_working-returns-in-Loop
is_working-returns-in-Loop t c =
    c.has_work-in-Loop.ensures ∙ sym (loop_work c.args.stmt.now c.in-Loop.slot c.in-Loop.from c.in-Loop.to c.in-Loop.body c.in-Loop.is)

pub is_working-returns-in-Critical : goal.is_working-returns-in-Critical
is_working-returns-in-Critical t c =
    c.has_work-in-Critical.ensures ∙ sym (critical_work c.args.stmt.now c.in-Critical.mutex c.in-Critical.line c.in-Critical.end c.in-Critical.body c.in-Critical.is)

pub is_working-returns-then-has_work : goal.is_working-returns-then-has_work
is_working-returns-then-has_work t c =
    c.has_work.ensures
    ∙ sym c.if-has_work.ensures
    ∙ ap (λ (b : Bool). b || code_holds_work (code_of c.in-If.no.stmts.items)) c.if-has_work.ensures
    ∙ sym (if_work c.args.stmt.now c.in-If.test c.in-If.yes c.in-If.no c.in-If.is)

pub is_working-returns-else-has_work : goal.is_working-returns-else-has_work
is_working-returns-else-has_work t c =
    c.has_work-else-has_work.ensures
    ∙ ap (λ (b : Bool). b || code_holds_work (code_of c.in-If.no.stmts.items)) c.if-has_work.ensures
    ∙ sym (if_work c.args.stmt.now c.in-If.test c.in-If.yes c.in-If.no c.in-If.is)
