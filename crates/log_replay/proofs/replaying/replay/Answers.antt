use Rattle.std.proofs.Common.{sym, ◌∙◌, ap}
use Rattle.std.proofs.lemmas.Result.{IfOk-weaker}
use Rattle.log_replay.proofs.replaying.replay.Goals as goal

pub returns-clause-compares : goal.returns-clause-compares
returns-clause-compares g c =
    let all = c.in_ok-sweep.ensures.all in
    IfOk-weaker c.compare_rows.result _ _
    (λ found compares. record {
      tasks = all.0;
      holds = all.1.holds;
      well_formed = all.1.well_formed;
      replayed = λ x told. compares x (ap (λ s. s.content) c.in_ok-sweep.ensures.reads.same ∙ told) all.0 (all.1.completes.rows_are ∙ sym c.rows.ensures) (all.1.holds x told).logs all.1.keeps;
    })
    c.compare_rows.ensures.compares
