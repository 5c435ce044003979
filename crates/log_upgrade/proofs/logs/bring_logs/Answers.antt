use Rattle.std.proofs.Common.{rules, ◌≡◌, ap, sym, subst, ◌∙◌, arith, Some}
use Rattle.std.proofs.lemmas.Result.{err_from_is_err_and}
use Rattle.log_format.specs.declared.format.Format.TheVariants.{First}
use Rattle.log_format.specs.declared.format.TheConstants.{FORMAT}
use Rattle.log_format.specs.Format.{log_header}
use Rattle.log_format.specs.Spelling.{log_bytes}
use Rattle.sw_base.specs.Environment.{LeavesPrefix, with_put}
use Rattle.sw_base.specs.Names.{log_name}
use Rattle.race_model.specs.LogFault.{IsWholeLog}
use Rattle.race_model.specs.Row.{Row}
use Rattle.log_upgrade.proofs.Bringing.{brought, brought_all, brought_broken, brought_next, next_log, next_task}
use Rattle.log_upgrade.proofs.logs.bring_logs.Goals as goal

pub rows-preserved : goal.rows-preserved
rows-preserved g c = record {
  brought = λ x told trace can.
      let now = brought x c.args.dir.now c.args.new.now c.args.rows.now trace can c.rows.row-index c.row-item.result c.rows-test.true c.row-item.is in
      let so_far = c.rows.invariant.brought x told trace can in
      let next = next_task x c.args.dir.now c.args.new.now c.args.rows.now trace can c.rows.row-index c.row-item.result c.rows-test.true c.row-item.is in
      let whole = next_log x c.args.dir.now c.args.new.now c.args.rows.now trace can c.rows.row-index c.row-item.result c.rows-test.true c.row-item.is in
      brought_next x c.args.dir.now c.args.new.now c.args.rows.now trace can c.rows.row-index c.row-item.result c.rows-test.true c.row-item.is _
      (subst (λ (r : Row). (g.F.Folder.state c.bring_log.new.folder).content ≡ Some (with_put (log_name c.args.new.now r.path) (log_bytes (log_header FORMAT) next.task.records) now)) c.row.view_is
      (c.in_ok-bring_log.ensures.done now so_far next.task.records (subst (λ (r : Row). IsWholeLog First now.held c.args.dir.now r.path next.task.records) (sym c.row.view_is) whole)
      (ap (λ (r : Row). r.records) (c.row.view_is ∙ next.row_is))));
  no_fault = search rules;
  same_faults = c.in_ok-bring_log.ensures.counts.no_fault ∙ c.rows.invariant.same_faults;
  same_roots = c.in_ok-bring_log.ensures.counts.same_roots ∙ c.rows.invariant.same_roots;
  tells = c.in_ok-bring_log.ensures.counts.tells ∙ c.rows.invariant.tells;
}

pub returns-in_err-bring_log-clause-refused : goal.returns-in_err-bring_log-clause-refused
returns-in_err-bring_log-clause-refused g c =
    let p = err_from_is_err_and c.from_residual-in_err-bring_log.result c.from_residual-in_err-bring_log.ensures.1 in
    rw (p.1) (λ x told trace can.
    let now = brought x c.args.dir.now c.args.new.now c.args.rows.now trace can c.rows.row-index c.row-item.result c.rows-test.true c.row-item.is in
    let so_far = c.rows.invariant.brought x told trace can in
    let next = next_task x c.args.dir.now c.args.new.now c.args.rows.now trace can c.rows.row-index c.row-item.result c.rows-test.true c.row-item.is in
    let whole = next_log x c.args.dir.now c.args.new.now c.args.rows.now trace can c.rows.row-index c.row-item.result c.rows-test.true c.row-item.is in
    brought_broken x c.args.dir.now c.args.new.now c.args.rows.now trace can c.rows.row-index c.row-item.result c.rows-test.true c.row-item.is _
    (subst (λ (r : Row). LeavesPrefix (Some now) (g.F.Folder.state c.bring_log.new.folder).content (log_name c.args.new.now r.path) (log_bytes (log_header FORMAT) next.task.records)) c.row.view_is
    (c.in_err-bring_log.ensures.refused now so_far next.task.records (subst (λ (r : Row). IsWholeLog First now.held c.args.dir.now r.path next.task.records) (sym c.row.view_is) whole)
    (ap (λ (r : Row). r.records) (c.row.view_is ∙ next.row_is)))))

pub returns-clause-done : goal.returns-clause-done
returns-clause-done g c = λ x told trace can.
    brought_all x c.args.dir.now c.args.new.now c.args.rows.now trace can c.rows.row-index (omega (arith, c.rows-test.false, c.rows.auto.row-index-end)) _ (c.rows.invariant.brought x told trace can)
