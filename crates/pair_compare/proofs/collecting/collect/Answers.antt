use Rattle.std.proofs.Common.{List, [], rules, subst}
use Rattle.std.proofs.lemmas.List.{take_all}
use Rattle.std.proofs.lemmas.List.Sorted.{IsNonDecreasingBy-from_sort_by_key, IsPermutation-sym}
use Rattle.pair_compare.specs.Conflict.{GrowsBy, OneHas}
use Rattle.pair_compare.specs.Sweeps.{IsHullOf}
use Rattle.pair_compare.specs.Work.{IsMemberReach}
use Rattle.pair_compare.specs.declared.member.Member.{Member}
use Rattle.pair_compare.proofs.Adds.{Adds-next}
use Rattle.pair_compare.proofs.Members.{OneHas-permuted}
use Rattle.pair_compare.proofs.Tasks.{all_from_none}
use Rattle.pair_compare.proofs.collecting.collect.Goals as goal

pub loop-member-preserved : goal.loop-member-preserved
loop-member-preserved c = Adds-next _ _ _ _ _ _ _ c.loop-member-test.true c.member-item.is c.loop-member.invariant c.in_ok-add_member.ensures

pub returns-clause-same : goal.returns-clause-same
returns-clause-same c reach =
    let found = c.loop-member.hulls.items in
    let ordered = c.sort_by_key.new.self.items in
    let task = c.args.task.now in
    let all = all_from_none IsHullOf (OneHas IsHullOf found) (OneHas (IsMemberReach task.singly task.low task.high) task.members.now)
    (subst (λ (ms : List Member). GrowsBy (OneHas IsHullOf []) (OneHas IsHullOf found) (OneHas (IsMemberReach task.singly task.low task.high) ms)) (search (rules, take_all)) c.loop-member.invariant) reach in
    let same = c.sort_by_key.ensures.permutation in
    (λ h. all.0 (OneHas-permuted IsHullOf ordered found reach (IsPermutation-sym found ordered same) h), λ h. OneHas-permuted IsHullOf found ordered reach same (all.1 h))

pub returns-clause-ascends : goal.returns-clause-ascends
returns-clause-ascends c = IsNonDecreasingBy-from_sort_by_key (λ hull. hull.low) c.sort_by_key.new.self.items c.in_ok-sort_by_key.ensures.sorted (λ a r q k. search rules)
