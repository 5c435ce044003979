use Rattle.std.proofs.Common.{◌≡◌, ap, sym, subst, ◌∙◌, List}
use Rattle.log_format.specs.declared.format.TheConstants.{FORMAT}
use Rattle.sw_base.specs.declared.path.Step.{Step}
use Rattle.race_model.specs.LogFault.{IsWholeLog}
use Rattle.race_model.specs.Row.{Row}
use Rattle.explain.proofs.finding.open_log.Goals as goal

pub returns-clause-stands : goal.returns-clause-stands
returns-clause-stands g c = λ x told events whole counted.
    let path : c.row.inside.path ≡ c.args.row.now.path = ap (λ (r : Row). r.path) c.row.view_is in
    let here = subst (λ (q : List Step). IsWholeLog FORMAT x.held c.args.dir.now q events) (sym path) whole in
    c.in_ok-open.ensures.stands x told events here.there here.tabled (ap (λ (r : Row). r.records) c.row.view_is ∙ counted)
