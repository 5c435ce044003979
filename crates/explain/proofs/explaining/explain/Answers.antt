use Rattle.std.proofs.Common.{List, ap, sym, subst, ◌∙◌}
use Rattle.std.proofs.lemmas.Result.{IfOk-weaker}
use Rattle.log_segment.specs.declared.segment.Segment.{Segment}
use Rattle.race_model.specs.Trace.{Trace}
use Rattle.explain.specs.Suspects.{HoldAccesses}
use Rattle.explain.proofs.Pairs.{exact_pair}
use Rattle.explain.proofs.Runs.{good_run, same_trace, walks_folder}
use Rattle.explain.proofs.explaining.explain.Goals as goal

pub returns-clause-explained : goal.returns-clause-explained
returns-clause-explained g c = λ x told trace holds.
    let all = c.in_ok-sweep.ensures.all in
    c.least_among.ensures.explains x (ap (λ s. s.content) c.in_ok-sweep.ensures.reads.same ∙ told) trace (good_run all.1 x told c.rows.result.now (sym c.rows.ensures) trace holds)
    (subst (λ (t : Trace). HoldAccesses t (c.args.low, c.args.high) c.deref.result.now) (sym (same_trace all.1 x told trace holds)) (subst (λ (xs : List Segment). HoldAccesses all.0 (c.args.low, c.args.high) xs) (sym c.deref.ensures.value) all.2))

pub returns-clause-pair : goal.returns-clause-pair
returns-clause-pair g c = λ x told trace holds.
    IfOk-weaker c.least_among.result _ _ (λ answer is. exact_pair trace (c.args.low, c.args.high) answer is) (returns-clause-explained g c x told trace holds)

pub returns-clause-walks : goal.returns-clause-walks
returns-clause-walks g c = let all = c.in_ok-sweep.ensures.all in walks_folder _ _ _ _ c.least_among.result all.1 c.least_among.ensures.only_faults
