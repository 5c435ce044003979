use Rattle.std.proofs.Common.{List, subst}
use Rattle.std.proofs.lemmas.Result.{on_ok_weaker}
use Rattle.pair_compare.specs.Conflict.{AddsPairs, OneHas}
use Rattle.pair_compare.specs.Sweeps.{IsHullOf, IsMetPair}
use Rattle.pair_compare.specs.Work.{IsMemberReach, IsTaskPair}
use Rattle.pair_compare.specs.declared.hull.Hull.{Hull}
use Rattle.pair_compare.proofs.Adds.{AddsPairs-same}
use Rattle.pair_compare.proofs.Swept.{met_within}
use Rattle.pair_compare.proofs.collecting.search_task.Goals as goal

pub returns : goal.returns
returns c =
    let hulls = c.collect.new.hulls.items in
    let task = c.args.task.now in
    on_ok_weaker c.sweep.result
    (λ adds. AddsPairs-same c.args.pairs.now.keys c.sweep.new.pairs.keys (IsMetPair task.low (OneHas IsHullOf hulls)) (IsTaskPair task)
    (λ p h. met_within task.low (OneHas IsHullOf hulls) (OneHas (IsMemberReach task.singly task.low task.high) task.members.now) p (λ n. (c.in_ok-collect.ensures.same n).0) h)
    (λ p h. met_within task.low (OneHas (IsMemberReach task.singly task.low task.high) task.members.now) (OneHas IsHullOf hulls) p (λ n. (c.in_ok-collect.ensures.same n).1) h)
    (subst (λ (hs : List Hull). AddsPairs c.args.pairs.now.keys c.sweep.new.pairs.keys (IsMetPair task.low (OneHas IsHullOf hs))) c.as_slice.ensures.value adds)) c.sweep.ensures
