use Rattle.std.proofs.Common.{List, [], rules, subst}
use Rattle.std.proofs.lemmas.List.{take_all}
use Rattle.pair_compare.specs.Conflict.{GrowsBy, OneHas}
use Rattle.pair_compare.specs.Groups.{IsGroupPair}
use Rattle.pair_compare.specs.declared.group.Group.{Group}
use Rattle.pair_compare.proofs.Adds.{Adds-next}
use Rattle.pair_compare.proofs.Members.{Adds-measured}
use Rattle.pair_compare.proofs.Tasks.{all_from_none}
use Rattle.pair_compare.proofs.alone.measured_all.Goals as goal

pub loop-group-preserved : goal.loop-group-preserved
loop-group-preserved c =
    Adds-next (OneHas IsGroupPair []) (OneHas IsGroupPair c.loop-group.found.items) (OneHas IsGroupPair c.push.new.self.items) IsGroupPair c.args.groups.now c.loop-group.group-index c.group-item.result c.loop-group-test.true c.group-item.is c.loop-group.invariant
    (Adds-measured c.loop-group.found.items c.push.new.self.items c.group-item.result _ c.in_ok-measured_group.ensures c.in_ok-push.ensures.items)

pub returns : goal.returns
returns c = all_from_none IsGroupPair (OneHas IsGroupPair c.loop-group.found.items) (OneHas IsGroupPair c.args.groups.now)
    (subst (λ (xs : List Group). GrowsBy (OneHas IsGroupPair []) (OneHas IsGroupPair c.loop-group.found.items) (OneHas IsGroupPair xs)) (search (rules, take_all)) c.loop-group.invariant)
