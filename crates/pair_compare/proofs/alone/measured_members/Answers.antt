use Rattle.std.proofs.Common.{List, [], rules, subst}
use Rattle.std.proofs.lemmas.List.{take_all}
use Rattle.pair_compare.specs.Conflict.{GrowsBy, OneHas}
use Rattle.pair_compare.specs.Groups.{IsRunOf}
use Rattle.pair_compare.specs.declared.member.Member.{Member}
use Rattle.pair_compare.proofs.Adds.{Adds-next}
use Rattle.pair_compare.proofs.Members.{Adds-member}
use Rattle.pair_compare.proofs.Tasks.{all_from_none}
use Rattle.pair_compare.proofs.alone.measured_members.Goals as goal

pub loop-member-preserved : goal.loop-member-preserved
loop-member-preserved c =
    Adds-next (OneHas IsRunOf []) (OneHas IsRunOf c.loop-member.found.items) (OneHas IsRunOf c.push.new.self.items) IsRunOf c.args.members.now c.loop-member.member-index c.member-item.result c.loop-member-test.true c.member-item.is c.loop-member.invariant
    (Adds-member c.loop-member.found.items c.push.new.self.items c.member-item.result _ c.measured.ensures.part c.measured.ensures.runs c.in_ok-push.ensures.items)

pub returns : goal.returns
returns c = all_from_none IsRunOf (OneHas IsRunOf c.loop-member.found.items) (OneHas IsRunOf c.args.members.now)
    (subst (λ (xs : List Member). GrowsBy (OneHas IsRunOf []) (OneHas IsRunOf c.loop-member.found.items) (OneHas IsRunOf xs)) (search (rules, take_all)) c.loop-member.invariant)
