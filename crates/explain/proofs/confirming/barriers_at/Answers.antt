use Rattle.std.proofs.Common.{◌≡◌, ◌+◌, ◌<◌, ◌≤◌, List, Some, length, ap, sym, subst, ◌∙◌}
use Rattle.std.specs.Prelude.{slice_get}
use Rattle.std.proofs.lemmas.Option.{same_Some, slice_get_within}
use Rattle.sw_base.specs.declared.path.Step.{Step}
use Rattle.race_model.specs.Row.{Row}
use Rattle.explain.specs.Witness.{IsLaneAbove}
use Rattle.explain.proofs.AtLevel.{itself_passed, lane_listed, region_passed}
use Rattle.explain.proofs.Logs.{log_of, path_of, row_of_place}
use Rattle.explain.proofs.confirming.barriers_at.Goals as goal

pub returns-in_default-clause-passed : goal.returns-in_default-clause-passed
returns-in_default-clause-passed g c = λ x told trace run node stands here deep own.
    let log = log_of x c.args.dir.now c.args.rows.now trace run c.args.place c.index-rows-place.result (row_of_place c.args.rows.now c.args.place c.index-rows-place.result c.requires.place c.index-rows-place.is) in
    let path = path_of x c.args.dir.now trace c.args.place c.index-rows-place.result log node stands ∙ sym c.steps.ensures.steps in
    itself_passed _ node c.args.level c.args.own deep (subst (λ (p : List Step). length p ≤ c.args.level + 1) (sym path) c.in_default.ensures) own

pub returns-in_default-lane_above-clause-passed : goal.returns-in_default-lane_above-clause-passed
returns-in_default-lane_above-clause-passed g c = λ x told trace run node stands here deep own.
    let log = log_of x c.args.dir.now c.args.rows.now trace run c.args.place c.index-rows-place.result (row_of_place c.args.rows.now c.args.place c.index-rows-place.result c.requires.place c.index-rows-place.is) in
    let own_path : c.row.inside.path ≡ c.index-rows-place.result.path = ap (λ (r : Row). r.path) c.row.view_is in
    let path = path_of x c.args.dir.now trace c.args.place c.index-rows-place.result log node stands ∙ sym own_path in
    let long = slice_get_within c.steps.result.now (c.args.level + 1) c.in-Some.ensures.0 c.in-Some.ensures.1 in
    lane_listed x c.args.dir.now c.args.rows.now trace run node c.args.level c.row.inside.path path here
    (subst (λ (p : List Step). c.args.level + 1 < length p) (c.steps.ensures.steps ∙ sym own_path) long) c.in_default-lane_above.ensures

pub returns-clause-passed : goal.returns-clause-passed
returns-clause-passed g c = λ x told trace run node stands here deep own.
    let log = log_of x c.args.dir.now c.args.rows.now trace run c.args.place c.index-rows-place.result (row_of_place c.args.rows.now c.args.place c.index-rows-place.result c.requires.place c.index-rows-place.is) in
    let own_path : c.row.inside.path ≡ c.index-rows-place.result.path = ap (λ (r : Row). r.path) c.row.view_is in
    let path = path_of x c.args.dir.now trace c.args.place c.index-rows-place.result log node stands in
    let step : slice_get node.path (c.args.level + 1) ≡ Some c.in-Some.ensures.0 =
    ap (λ (p : List Step). slice_get p (c.args.level + 1)) (path ∙ sym c.steps.ensures.steps) ∙ c.in-Some.ensures.1 in
    let found = c.in-Some-lane_above.ensures in
    let row = row_of_place c.args.rows.now c.in-Some-lane_above.above c.index-rows-above.result found.0 c.index-rows-above.is in
    let above = log_of x c.args.dir.now c.args.rows.now trace run c.in-Some-lane_above.above c.index-rows-above.result row in
    let lane = subst (λ (r : Row). IsLaneAbove node.path c.args.level r.path) (same_Some found.1 c.index-rows-above.result (sym found.2 ∙ row))
    (subst (λ (p : List Step). IsLaneAbove p c.args.level found.1.path) (own_path ∙ sym path) found.3) in
    region_passed x c.args.dir.now c.args.rows.now trace run node here c.args.level c.in-Some.region c.in-Some.ensures.0 step c.in-Some.ensures.2
    c.in-Some-lane_above.above c.index-rows-above.result above lane c.in_ok-found.found c.barriers_of.result
    (c.in_ok-found.ensures.finds x told above.task.records above.whole above.counted above.may_follow) c.barriers_of.ensures
