use Rattle.std.proofs.lemmas.Result.{err_from_is_err_and}
use Rattle.pair_compare.proofs.Adds.{AddsPairs-next, AddsSome-next}
use Rattle.segment_groups.proofs.TwoSegments.{searches_cost-next, searches_cost-within}
use Rattle.segment_groups.proofs.searching.search_for_all.Goals as goal

pub loop-run-preserved : goal.loop-run-preserved
loop-run-preserved g c = (
  AddsPairs-next _ _ _ _ _ _ _ c.loop-run-test.true c.run-item.is c.loop-run.invariant.0 c.in_ok-search_for.ensures.added,
  λ digits fits.
      searches_cost-next c.args.steps.now c.loop-run.steps c.search_for.new.steps c.args.tree.now digits c.args.runs.now c.loop-run.run-index c.run-item.result
      c.loop-run-test.true c.run-item.is (c.loop-run.invariant.1 digits fits) (c.in_ok-search_for.ensures.cost digits fits),
)

pub returns-in_err-search_for-clause-refused : goal.returns-in_err-search_for-clause-refused
returns-in_err-search_for-clause-refused g c =
    let p = err_from_is_err_and c.from_residual.result c.from_residual.ensures.1 in
    rw (p.1) (AddsSome-next _ _ _ _ _ _ _ c.loop-run-test.true c.run-item.is c.loop-run.invariant.0 c.in_err-search_for.ensures.refused)

pub returns-in_err-search_for-clause-cost : goal.returns-in_err-search_for-clause-cost
returns-in_err-search_for-clause-cost g c digits fits =
    searches_cost-within c.args.steps.now c.loop-run.steps c.search_for.new.steps c.args.tree.now digits c.args.runs.now c.loop-run.run-index c.run-item.result
    c.loop-run-test.true c.run-item.is (c.loop-run.invariant.1 digits fits) (c.in_err-search_for.ensures.cost digits fits)
