use Rattle.std.proofs.Common.{rules, arith, ◌++◌, ℕ, map, Bor, sym, ap, ◌∙◌}
use Rattle.std.proofs.lemmas.Result.{err_from_is_err_and, on_err_weaker}
use Rattle.race_report.proofs.ReportLemmas.{GainsPrefix-report, GainsPrefix-count, map-now-push, left-step, written-step}
use Rattle.race_report.proofs.report.Goals as goal

pub loop-pair-preserved : goal.loop-pair-preserved
loop-pair-preserved g c = rw (map-now-push c.loop-pair.yielded c.in-Some.pair) (record {
  left = left-step _ _ _ _ _ c.loop-pair.invariant.left c.in-Some.ensures.steps;
  written = written-step _ _ _ _ _ c.loop-pair.invariant.written (search rules);
  later = grind arith;
})

pub returns-in_err-append_pair-clause-prefix : goal.returns-in_err-append_pair-clause-prefix
returns-in_err-append_pair-clause-prefix g c =
    let p = err_from_is_err_and c.from_residual.result c.from_residual.ensures.1 in
    rw (p.1) (GainsPrefix-report _ _ _ (map (λ (pair : Bor (ℕ × ℕ)). pair.now) c.loop-pair.yielded) c.in-Some.pair.now c.next.new.self _ (sym (ap (λ l. map (λ (pair : Bor (ℕ × ℕ)). pair.now) c.loop-pair.yielded ++ l) (sym c.in-Some.ensures.steps) ∙ c.loop-pair.invariant.left)) c.loop-pair.invariant.written (c.in_err-append_pair.ensures.prefix))

pub returns-clause-prefix : goal.returns-clause-prefix
returns-clause-prefix g c = on_err_weaker c.append_count.result (GainsPrefix-count _ _ _ (map (λ (pair : Bor (ℕ × ℕ)). pair.now) c.loop-pair.yielded) c.loop-pair.pair-iterator _ _ c.loop-pair.invariant.left (c.in-None.ensures.steps.0) c.len.ensures.len c.loop-pair.invariant.written) c.append_count.ensures.prefix
