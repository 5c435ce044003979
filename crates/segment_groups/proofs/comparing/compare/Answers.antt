use Rattle.std.proofs.Common.{◌+◌, ◌≤◌, List, subst}
use Rattle.stride_summary.specs.declared.run.Run.{Run}
use Rattle.pair_compare.specs.Conflict.{AddsPairs, AddsSome, IsPairOfRuns}
use Rattle.segment_groups.specs.Search.{searches_cost}
use Rattle.std.proofs.lemmas.Result.{err_from_is_err_and}
use Rattle.segment_groups.proofs.TwoSegments.{AddsPairs-concurrent, AddsSome-concurrent, searches_cost-same}
use Rattle.segment_groups.proofs.comparing.compare.Goals as goal

pub returns-in_ok-search_for_all-clause-added : goal.returns-in_ok-search_for_all-clause-added
returns-in_ok-search_for_all-clause-added g c =
    AddsPairs-concurrent c.args.pairs.now.keys c.search_for_all.new.pairs.keys c.args.a.now c.args.b.now c.args.tree.now c.requires.same (c.concurrent.ensures.0 c.if-concurrent.true) (subst (λ (xs : List Run). AddsPairs c.args.pairs.now.keys c.search_for_all.new.pairs.keys (IsPairOfRuns c.args.tree.now xs)) c.deref.ensures.value c.in_ok-search_for_all.ensures.added)

pub returns-in_ok-search_for_all-clause-cost : goal.returns-in_ok-search_for_all-clause-cost
returns-in_ok-search_for_all-clause-cost g c digits fits =
    searches_cost-same c.args.steps.now c.search_for_all.new.steps c.args.a.now.runs.items c.args.b.now.runs.items c.args.tree.now digits c.requires.same (λ few. subst (λ (xs : List Run). c.search_for_all.new.steps ≤ c.args.steps.now + searches_cost c.args.tree.now digits xs) c.deref.ensures.value (c.in_ok-search_for_all.ensures.cost digits few)) fits

pub returns-in_err-search_for_all-clause-refused : goal.returns-in_err-search_for_all-clause-refused
returns-in_err-search_for_all-clause-refused g c =
    let p = err_from_is_err_and c.from_residual.result c.from_residual.ensures.1 in
    rw (p.1) (AddsSome-concurrent c.args.pairs.now.keys c.search_for_all.new.pairs.keys c.args.a.now c.args.b.now c.args.tree.now c.requires.same (c.concurrent.ensures.0 c.if-concurrent.true) (subst (λ (xs : List Run). AddsSome c.args.pairs.now.keys c.search_for_all.new.pairs.keys (IsPairOfRuns c.args.tree.now xs)) c.deref.ensures.value c.in_err-search_for_all.ensures.refused))

pub returns-in_err-search_for_all-clause-cost : goal.returns-in_err-search_for_all-clause-cost
returns-in_err-search_for_all-clause-cost g c digits fits =
    searches_cost-same c.args.steps.now c.search_for_all.new.steps c.args.a.now.runs.items c.args.b.now.runs.items c.args.tree.now digits c.requires.same (λ few. subst (λ (xs : List Run). c.search_for_all.new.steps ≤ c.args.steps.now + searches_cost c.args.tree.now digits xs) c.deref.ensures.value (c.in_err-search_for_all.ensures.cost digits few)) fits
