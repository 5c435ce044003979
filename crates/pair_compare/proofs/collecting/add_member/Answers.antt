use Rattle.std.proofs.Common.{rules, subst, List}
use Rattle.std.proofs.lemmas.List.{take_all}
use Rattle.stride_summary.specs.declared.run.Run.{Run}
use Rattle.pair_compare.specs.Conflict.{GrowsBy, OneHas}
use Rattle.pair_compare.specs.Sweeps.{IsHullOf}
use Rattle.pair_compare.specs.Work.{IsMemberReach, IsMetReach}
use Rattle.pair_compare.proofs.Adds.{Adds-next}
use Rattle.pair_compare.proofs.Members.{Adds-nothing}
use Rattle.pair_compare.proofs.Reaching.{member_meets, not_so}
use Rattle.pair_compare.proofs.collecting.add_member.Goals as goal

pub returns-then-not-meets : goal.returns-then-not-meets
returns-then-not-meets c = Adds-nothing (OneHas IsHullOf c.args.hulls.now.items) (IsMemberReach c.args.task.now.singly c.args.task.now.low c.args.task.now.high c.args.member.now)
    (λ reach h. not_so (c.meets.ensures.1 (member_meets c.args.task.now.singly c.args.task.now.low c.args.task.now.high c.args.member.now reach h)) c.if-not-meets.true)

pub loop-run-preserved : goal.loop-run-preserved
loop-run-preserved c = Adds-next _ _ _ _ _ _ _ c.loop-run-test.true c.run-item.is c.loop-run.invariant c.in_ok-add_run.ensures

pub returns : goal.returns
returns c = subst (λ (runs : List Run). GrowsBy (OneHas IsHullOf c.args.hulls.now.items) (OneHas IsHullOf c.loop-run.hulls.items) (OneHas (IsMetReach c.args.task.now.singly c.args.task.now.low c.args.task.now.high c.args.member.now.part) runs)) (search (rules, take_all)) c.loop-run.invariant
