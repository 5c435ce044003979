use Rattle.std.proofs.Common.{◌∙◌, ap}
use Rattle.std.proofs.lemmas.Result.{err_from_is_err_and, on_ok_weaker, on_err_weaker}
use Rattle.log_listing.proofs.ListedLogs.{log_done, refused_at_line, refused_at_open, refused_later}
use Rattle.log_listing.proofs.listing.list_log.Goals as goal

pub returns-in_err-list_name-clause-refused : goal.returns-in_err-list_name-clause-refused
returns-in_err-list_name-clause-refused g c =
    let p = err_from_is_err_and c.from_residual.result c.from_residual.ensures.1 in
    rw (p.1) (λ x told events whole counted. refused_at_line _ _ _ _ c.args.path.now c.args.records events counted c.in_err-list_name.ensures.refused)

pub returns-in_err-open_log-clause-refused : goal.returns-in_err-open_log-clause-refused
returns-in_err-open_log-clause-refused g c =
    let p = err_from_is_err_and c.from_residual-in_err-open_log.result c.from_residual-in_err-open_log.ensures.1 in
    rw (p.1) (λ x told events whole counted. refused_at_open _ _ _ _ c.args.path.now c.args.records events counted c.in_ok-list_name.ensures.done)

pub returns-clause-done : goal.returns-clause-done
returns-clause-done g c = λ x told events whole counted.
    on_ok_weaker c.list_records.result (λ all. log_done _ _ _ _ _ _ c.args.path.now c.args.records events counted c.in_ok-list_name.ensures.done all)
    (c.list_records.ensures.done x (ap (λ s. s.content) c.in_ok-open_log.ensures.reads.same ∙ told) events (c.in_ok-open_log.ensures.stands x told events whole counted))

pub returns-clause-refused : goal.returns-clause-refused
returns-clause-refused g c = λ x told events whole counted.
    on_err_weaker c.list_records.result (λ part. refused_later _ _ _ _ _ _ c.args.path.now c.args.records events counted c.in_ok-list_name.ensures.done part)
    (c.list_records.ensures.refused x (ap (λ s. s.content) c.in_ok-open_log.ensures.reads.same ∙ told) events (c.in_ok-open_log.ensures.stands x told events whole counted))
