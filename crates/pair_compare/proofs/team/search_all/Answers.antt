use Rattle.std.proofs.Common.{◌≡◌, Contains, List, rules, subst}
use Rattle.std.proofs.lemmas.Result.{IfOk-weaker}
use Rattle.pair_compare.specs.Conflict.{GrowsBy, OneHas}
use Rattle.pair_compare.specs.Work.{IsTaskPair, IsWorkerPair}
use Rattle.pair_compare.specs.declared.worker.Worker.{Worker}
use Rattle.pair_compare.proofs.Tasks.{all_from_none}
use Rattle.pair_compare.proofs.team.search_all.Goals as goal

pub returns-clause-found : goal.returns-clause-found
returns-clause-found g c = IfOk-weaker c.find.result _ _ (λ pairs found pair.
    let same : c.deref_mut.result.now ≡ c.deal.new.team.items = search rules in
    let dealt = all_from_none IsWorkerPair (OneHas IsWorkerPair c.deal.new.team.items) (OneHas IsTaskPair c.args.tasks.now)
    (subst (λ (ws : List Worker). GrowsBy (OneHas IsWorkerPair ws) (OneHas IsWorkerPair c.deal.new.team.items) (OneHas IsTaskPair c.args.tasks.now)) c.new-team.ensures.items c.in_ok-deal.ensures.dealt) pair in
    let one = subst (λ (ws : List Worker). (Contains pairs.keys pair → OneHas IsWorkerPair ws pair) × (OneHas IsWorkerPair ws pair → Contains pairs.keys pair)) same (found pair) in
    (λ h. dealt.0 (one.0 h), λ h. one.1 (dealt.1 h))) c.find.ensures.found
