use Rattle.std.proofs.Common.{rules, ◌≡◌, refl, ℕ, List, string_bytes, arith, ap, sym, ◌∙◌, subst}
use Rattle.std.proofs.lemmas.Result.{err_from_is_err_and}
use Rattle.log_format.specs.declared.format.TheConstants.{FORMAT}
use Rattle.sw_base.specs.declared.path.Step.{Step}
use Rattle.race_model.specs.LogFault.{IsWholeLog}
use Rattle.race_model.specs.Row.{Row}
use Rattle.race_model.specs.Trace.{TaskLog}
use Rattle.log_listing.specs.Listing.{log_text}
use Rattle.log_listing.specs.Printing.{PrintsInPieces, PrintsPrefix}
use Rattle.log_listing.proofs.PrintedParts.{prefix_none}
use Rattle.log_listing.proofs.ListedLogs.{LogsTo-start, logs_all, logs_next, logs_refused, next_task, holds_next}
use Rattle.log_listing.proofs.listing.list_rows.Goals as goal

pub rows-init : goal.rows-init
rows-init g c = record { listed = λ x told trace same holds. LogsTo-start _ trace _ _; same = refl; no_fault = refl; later_out = omega arith }

pub returns-in_err-reader-clause-refused : goal.returns-in_err-reader-clause-refused
returns-in_err-reader-clause-refused g c =
    let p = err_from_is_err_and c.from_residual.result c.from_residual.ensures.1 in
    rw (p.1) (λ x told trace same holds. prefix_none _ _ _)

pub returns-in_err-list_log-clause-refused : goal.returns-in_err-list_log-clause-refused
returns-in_err-list_log-clause-refused g c =
    let p = err_from_is_err_and c.from_residual-in_err-list_log.result c.from_residual-in_err-list_log.ensures.1 in
    rw (p.1) (λ x told trace same holds.
    let listed = c.rows.invariant.listed x told trace same holds in
    let next = next_task (λ (task : TaskLog). log_text task.path task.records) trace c.args.rows.now same _ _ _ _ c.rows.row-index listed c.row-item.result c.rows-test.true c.row-item.is in
    let path : c.row.inside.path ≡ next.task.path = ap (λ (r : Row). r.path) (c.row.view_is ∙ next.row_is) in
    let whole = subst (λ (q : List Step). IsWholeLog FORMAT x.held c.args.dir.now q next.task.records) (sym path)
    (holds_next (λ (task : TaskLog). log_text task.path task.records) trace c.args.rows.now same _ _ _ _ c.rows.row-index listed (λ (task : TaskLog). IsWholeLog FORMAT x.held c.args.dir.now task.path task.records) holds c.row-item.result next) in
    logs_refused (λ (task : TaskLog). log_text task.path task.records) trace c.args.rows.now same _ _ _ _ c.rows.row-index listed c.row-item.result next _ _
    (subst (λ (q : List Step). PrintsPrefix (g.O.Out.written c.rows.out) (string_bytes c.rows.lines) (g.O.Out.written c.list_log.new.out) (string_bytes c.list_log.new.lines) (log_text q next.task.records)) path
    (c.in_err-list_log.ensures.refused x (ap (λ s. s.content) c.rows.invariant.same ∙ told) next.task.records whole (ap (λ (r : Row). r.records) (c.row.view_is ∙ next.row_is)))))

pub rows-preserved : goal.rows-preserved
rows-preserved g c = record {
  listed = λ x told trace same holds.
      let listed = c.rows.invariant.listed x told trace same holds in
      let next = next_task (λ (task : TaskLog). log_text task.path task.records) trace c.args.rows.now same _ _ _ _ c.rows.row-index listed c.row-item.result c.rows-test.true c.row-item.is in
      let path : c.row.inside.path ≡ next.task.path = ap (λ (r : Row). r.path) (c.row.view_is ∙ next.row_is) in
      let whole = subst (λ (q : List Step). IsWholeLog FORMAT x.held c.args.dir.now q next.task.records) (sym path)
      (holds_next (λ (task : TaskLog). log_text task.path task.records) trace c.args.rows.now same _ _ _ _ c.rows.row-index listed (λ (task : TaskLog). IsWholeLog FORMAT x.held c.args.dir.now task.path task.records) holds c.row-item.result next) in
      logs_next (λ (task : TaskLog). log_text task.path task.records) trace c.args.rows.now same _ _ _ _ c.rows.row-index listed c.row-item.result next _ _
      (subst (λ (q : List Step). PrintsInPieces (g.O.Out.written c.rows.out) (string_bytes c.rows.lines) (g.O.Out.written c.list_log.new.out) (string_bytes c.list_log.new.lines) (log_text q next.task.records)) path
      (c.in_ok-list_log.ensures.done x (ap (λ s. s.content) c.rows.invariant.same ∙ told) next.task.records whole (ap (λ (r : Row). r.records) (c.row.view_is ∙ next.row_is))));
  same = c.in_ok-list_log.ensures.reads.same ∙ c.rows.invariant.same;
  no_fault = search rules;
  later_out = omega (arith, c.in_ok-list_log.ensures.later_out, c.rows.invariant.later_out);
}

pub returns-clause-done : goal.returns-clause-done
returns-clause-done g c = λ x told trace same holds.
    let listed = c.rows.invariant.listed x told trace same holds in
    logs_all (λ (task : TaskLog). log_text task.path task.records) trace c.args.rows.now same _ _ _ _ c.rows.row-index listed (omega (arith, c.rows-test.false, c.rows.auto.row-index-end))
