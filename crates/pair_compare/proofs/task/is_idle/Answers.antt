use Rattle.std.proofs.Common.{All, List, rules, subst}
use Rattle.std.proofs.lemmas.List.{take_all}
use Rattle.std.proofs.lemmas.List.Elements.{All-more}
use Rattle.pair_compare.specs.Work.{NeverWrites}
use Rattle.pair_compare.specs.declared.member.Member.{Member}
use Rattle.pair_compare.proofs.task.is_idle.Goals as goal

pub loop-member-preserved : goal.loop-member-preserved
loop-member-preserved c = All-more (NeverWrites c.args.low c.args.high) c.args.members.now c.loop-member.member-index c.member-item.result c.loop-member-test.true c.loop-member.invariant
    (subst (λ (m : Member). NeverWrites c.args.low c.args.high m) c.member-item.is (c.may_write.ensures c.if-may_write.false))

pub returns : goal.returns
returns c quiet = subst (λ (ms : List Member). All (NeverWrites c.args.low c.args.high) ms) (search (rules, take_all)) c.loop-member.invariant
