use Rattle.std.proofs.Common.{List, [], rules, subst}
use Rattle.std.proofs.lemmas.List.{take_all}
use Rattle.pair_compare.specs.Conflict.{GrowsBy, OneHas}
use Rattle.pair_compare.specs.Groups.{IsGroupPair}
use Rattle.pair_compare.specs.Work.{IsTaskPair}
use Rattle.pair_compare.specs.declared.group.Group.{Group}
use Rattle.pair_compare.proofs.Adds.{Adds-next}
use Rattle.pair_compare.proofs.Tasks.{all_from_none}
use Rattle.pair_compare.proofs.task.cut.Goals as goal

pub loop-group-preserved : goal.loop-group-preserved
loop-group-preserved c = Adds-next _ _ _ _ _ _ _ c.loop-group-test.true c.group-item.is c.loop-group.invariant c.in_ok-cut_group.ensures

pub returns : goal.returns
returns c = all_from_none IsTaskPair (OneHas IsTaskPair c.loop-group.tasks.items) (OneHas IsGroupPair c.args.groups.now)
    (subst (λ (gs : List Group). GrowsBy (OneHas IsTaskPair []) (OneHas IsTaskPair c.loop-group.tasks.items) (OneHas IsGroupPair gs)) (search (rules, take_all)) c.loop-group.invariant)
