use Rattle.std.proofs.Common.{ap, sym, ◌∙◌, ◌<◌, ℕ, List, length, arith}
use Rattle.std.specs.Prelude.{slice_get}
use Rattle.kernel_syntax.specs.Program.{code_of}
use Rattle.certify.specs.Constructs.{construct_lines, schedule_lines}
use Rattle.certify.proofs.FirstLines.{finds_line, skips_lines}
use Rattle.certify.proofs.StmtLines.{update_lines, critical_lines, if_lines, loop_lines, parallel_lines, for_lines, no_lines}
use Rattle.certify.proofs.finding.+finding.Goals as goal

pub first_in-returns-in-Some : goal.first_in-returns-in-Some
first_in-returns-in-Some t c =
    let items = c.deref-stmt-items.result.now in
    let within : c.loop-stmt.stmt-index < length items = omega arith in
    sym (finds_line items c.loop-stmt.stmt-index c.stmt-item.result c.in-Some.line within c.stmt-item.is (sym c.first_at.ensures ∙ c.in-Some.is)) ∙ c.loop-stmt.invariant

pub first_in-loop-stmt-preserved : goal.first_in-loop-stmt-preserved
first_in-loop-stmt-preserved t c =
    let items = c.deref-stmt-items.result.now in
    let within : c.loop-stmt.stmt-index < length items = omega arith in
    sym (skips_lines items c.loop-stmt.stmt-index c.stmt-item.result within c.stmt-item.is (sym c.first_at.ensures ∙ c.in_default.is)) ∙ c.loop-stmt.invariant

pub first_at-returns-in-Update : goal.first_at-returns-in-Update
first_at-returns-in-Update t c =
    let v = c.in-Update in
    sym (ap (λ (l : List ℕ). slice_get l 0) (update_lines c.args.stmt.now v.array v.index v.value v.minus v.line v.site v.is))

pub first_at-returns-in-Critical : goal.first_at-returns-in-Critical
first_at-returns-in-Critical t c =
    let v = c.in-Critical in
    sym (ap (λ (l : List ℕ). slice_get l 0) (critical_lines c.args.stmt.now v.mutex v.line v.end v.body v.is))

pub first_at-returns-in-If : goal.first_at-returns-in-If
first_at-returns-in-If t c =
    let v = c.in-If in
    c.earlier.ensures (construct_lines (code_of v.yes.stmts.items)) (construct_lines (code_of v.no.stmts.items)) c.first_in.ensures c.first_in-in-If.ensures
    ∙ sym (ap (λ (l : List ℕ). slice_get l 0) (if_lines c.args.stmt.now v.test v.yes v.no v.is))

pub first_at-returns-in-Loop : goal.first_at-returns-in-Loop
first_at-returns-in-Loop t c =
    let v = c.in-Loop in
    c.first_in-in-Loop.ensures ∙ sym (ap (λ (l : List ℕ). slice_get l 0) (loop_lines c.args.stmt.now v.slot v.from v.to v.body v.is))

pub first_at-returns-in-Parallel : goal.first_at-returns-in-Parallel
first_at-returns-in-Parallel t c =
    c.first_in-in-Parallel.ensures ∙ sym (ap (λ (l : List ℕ). slice_get l 0) (parallel_lines c.args.stmt.now c.in-Parallel.team c.in-Parallel.is))

pub first_at-returns-in-For : goal.first_at-returns-in-For
first_at-returns-in-For t c =
    let v = c.in-For in
    c.earlier-in-For.ensures (schedule_lines v.schedule v.line) (construct_lines (code_of v.body.stmts.items)) c.drawn_line.ensures c.first_in-in-For.ensures
    ∙ sym (ap (λ (l : List ℕ). slice_get l 0) (for_lines c.args.stmt.now v.slot v.from v.to v.schedule v.nowait v.line v.end v.body v.is))

pub first_at-returns-in_default : goal.first_at-returns-in_default
first_at-returns-in_default t c =
    let v = c.in_default in
    sym (ap (λ (l : List ℕ). slice_get l 0) (no_lines c.args.stmt.now (record {
      not_update = v.not-Update;
      not_if = v.not-If;
      not_loop = v.not-Loop;
      not_parallel = v.not-Parallel;
      not_for = v.not-For;
      not_critical = v.not-Critical;
    })))
