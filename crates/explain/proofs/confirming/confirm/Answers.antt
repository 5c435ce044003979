use Rattle.std.proofs.Common.{ap, sym, ◌∙◌}
use Rattle.explain.proofs.Runs.{good_run, walks_folder}
use Rattle.explain.proofs.confirming.confirm.Goals as goal

pub returns-clause-confirmed : goal.returns-clause-confirmed
returns-clause-confirmed g c = λ x told trace holds.
    c.confirm_among.ensures.confirmed x (ap (λ s. s.content) c.in_ok-sweep.ensures.reads.same ∙ told) trace
    (good_run c.in_ok-sweep.ensures.all.1 x told c.rows.result.now (sym c.rows.ensures) trace holds)

pub returns-clause-walks : goal.returns-clause-walks
returns-clause-walks g c = let all = c.in_ok-sweep.ensures.all in walks_folder _ _ _ _ c.confirm_among.result all.1 c.confirm_among.ensures.only_faults
