use Rattle.std.proofs.Common.{◌+◌, ◌≤◌, rules}
use Rattle.std.proofs.lemmas.Result.{on_ok_weaker}
use Rattle.pair_compare.proofs.Cutting.{cut_all, cut_more, cuts_less}
use Rattle.pair_compare.proofs.task.cut_at.Goals as goal

pub loop-cut-preserved : goal.loop-cut-preserved
loop-cut-preserved c =
    let fewer : c.saturating_add-low.result ≤ c.max-high.result + 1 = search rules in
    cuts_less c.args.members.now c.args.singly c.saturating_add-low.result (c.max-high.result + 1) c.args.tasks.now.items c.add_task.new.tasks.items fewer
    (cut_more c.args.members.now c.args.singly c.loop-cut.low c.max-high.result c.args.tasks.now.items c.loop-cut.tasks.items c.add_task.new.tasks.items c.in_ok-add_task.ensures c.loop-cut.invariant)

pub returns : goal.returns
returns c = on_ok_weaker c.add_task-2.result (λ adds. cut_all c.args.members.now c.args.singly c.args.tasks.now.items c.add_task-2.new.tasks.items
    (cut_more c.args.members.now c.args.singly c.loop-cut.low _ c.args.tasks.now.items c.loop-cut.tasks.items c.add_task-2.new.tasks.items adds c.loop-cut.invariant)) c.add_task-2.ensures
