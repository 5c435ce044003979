use Rattle.std.proofs.Common.{length, ap, sym, refl, ◌∙◌, arith}
use Rattle.std.proofs.lemmas.Option.{slice_get_within}
use Rattle.race_model.proofs.TraceLogs.{record_there}
use Rattle.race_model.specs.Trace.{logs_of}
use Rattle.explain.proofs.Answering.{not_so}
use Rattle.explain.proofs.AtLevel.{exact_at, not_parted, told_unordered, tree}
use Rattle.explain.proofs.Logs.{log_of, path_of, row_of_place}
use Rattle.explain.proofs.confirming.are_unordered.Goals as goal

pub barriers_at-requires-clause-level : goal.barriers_at-requires-clause-level
barriers_at-requires-clause-level g c κs within =
    let p = (c.parting.ensures c.in-Some.level).0 c.in-Some.is in
    omega (arith, slice_get_within c.steps.result.now c.in-Some.level p.step p.mine, ap length c.steps.ensures.steps, c.steps.ensures.depth)

pub barriers_at-requires-2-clause-level : goal.barriers_at-requires-2-clause-level
barriers_at-requires-2-clause-level g c κs within =
    let p = (c.parting.ensures c.in-Some.level).0 c.in-Some.is in
    omega (arith, slice_get_within c.steps.result.now c.in-Some.level p.step p.mine, ap length c.steps.ensures.steps, c.steps.ensures.depth)

pub returns-in_default-clause-unordered : goal.returns-in_default-clause-unordered
returns-in_default-clause-unordered g c = λ x told trace run one other one_in other_in one_is other_is.
    let row = row_of_place c.args.rows.now c.args.first c.index-rows-first.result c.requires.first c.index-rows-first.is in
    let beside = row_of_place c.args.rows.now c.args.second c.index-rows-second.result c.requires.second c.index-rows-second.is in
    let path = path_of x c.args.dir.now trace c.args.first c.index-rows-first.result (log_of x c.args.dir.now c.args.rows.now trace run c.args.first c.index-rows-first.result row) one one_in in
    let other_path = path_of x c.args.dir.now trace c.args.second c.index-rows-second.result (log_of x c.args.dir.now c.args.rows.now trace run c.args.second c.index-rows-second.result beside) other other_in in
    let exact = exact_at c.parting.result _ _ one.path other.path (path ∙ sym c.steps.ensures.steps) (other_path ∙ sym c.steps-2.ensures.steps) c.parting.ensures in (
      λ never. absurd (not_so never refl),
      λ unordered. absurd (not_parted (logs_of trace) one other (tree x c.args.dir.now c.args.rows.now trace run) (record_there (logs_of trace) one _ one_is.event) (record_there (logs_of trace) other _ other_is.event) c.parting.result exact c.in_default.is unordered),
    )

pub returns-clause-unordered : goal.returns-clause-unordered
returns-clause-unordered g c = λ x told trace run one other one_in other_in one_is other_is.
    let row = row_of_place c.args.rows.now c.args.first c.index-rows-first.result c.requires.first c.index-rows-first.is in
    let beside = row_of_place c.args.rows.now c.args.second c.index-rows-second.result c.requires.second c.index-rows-second.is in
    let path = path_of x c.args.dir.now trace c.args.first c.index-rows-first.result (log_of x c.args.dir.now c.args.rows.now trace run c.args.first c.index-rows-first.result row) one one_in in
    let other_path = path_of x c.args.dir.now trace c.args.second c.index-rows-second.result (log_of x c.args.dir.now c.args.rows.now trace run c.args.second c.index-rows-second.result beside) other other_in in
    let exact = exact_at c.parting.result _ _ one.path other.path (path ∙ sym c.steps.ensures.steps) (other_path ∙ sym c.steps-2.ensures.steps) c.parting.ensures in
    let p = (exact c.in-Some.level).0 c.in-Some.is in
    let one_there = record_there (logs_of trace) one _ one_is.event in
    let other_there = record_there (logs_of trace) other _ other_is.event in
    told_unordered (logs_of trace) one other (tree x c.args.dir.now c.args.rows.now trace run) one_there other_there c.parting.result exact c.in-Some.level c.in-Some.is c.in_ok-mine.mine c.in_ok-yours.yours
    (c.in_ok-mine.ensures.passed x told trace run one one_in one_there (slice_get_within one.path c.in-Some.level p.step p.mine) one_is.barriers)
    (c.in_ok-yours.ensures.passed x (ap (λ s. s.content) c.in_ok-mine.ensures.reads.same ∙ told) trace run other other_in other_there (slice_get_within other.path c.in-Some.level p.beside p.yours) other_is.barriers)
    c.are_as_many.result c.are_as_many.ensures
