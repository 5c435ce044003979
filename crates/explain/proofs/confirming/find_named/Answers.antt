use Rattle.std.proofs.lemmas.Result.{IfOk-weaker}
use Rattle.explain.proofs.Logs.{log_of, names, row_of_place}
use Rattle.explain.proofs.confirming.find_named.Goals as goal

pub returns-in-Some-clause-finds : goal.returns-in-Some-clause-finds
returns-in-Some-clause-finds g c = λ x told trace run.
    let row = row_of_place c.args.rows.now c.args.place c.index-rows-place.result c.requires c.index-rows-place.is in
    let log = log_of x c.args.dir.now c.args.rows.now trace run c.args.place c.index-rows-place.result row in
    IfOk-weaker c.find_in_log.result _ _ (λ answer. names x c.args.dir.now trace c.args.place c.index-rows-place.result log c.args.number c.in-Some.earlier answer c.in-Some.ensures)
    (c.find_in_log.ensures.finds x told log.task.records log.whole log.counted log.may_follow)
