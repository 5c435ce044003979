use Rattle.std.proofs.Common.{sym, subst, List}
use Rattle.pair_compare.specs.Conflict.{GrowsBy, OneHas}
use Rattle.pair_compare.specs.Work.{IsPairAt, IsTaskPair}
use Rattle.pair_compare.specs.declared.task.Task.{Task}
use Rattle.pair_compare.proofs.Adds.{Adds-pushed}
use Rattle.pair_compare.proofs.Members.{Adds-nothing}
use Rattle.pair_compare.proofs.Reaching.{no_pair}
use Rattle.pair_compare.proofs.task.add_task.Goals as goal

pub returns-then-is_idle : goal.returns-then-is_idle
returns-then-is_idle c = Adds-nothing (OneHas IsTaskPair c.args.tasks.now.items) (IsPairAt c.args.members.now c.args.singly c.args.bytes.0 c.args.bytes.1)
    (λ pair h. no_pair c.args.members.now c.args.singly c.args.bytes.0 c.args.bytes.1 pair (c.is_idle.ensures c.if-is_idle.true) h)

pub returns : goal.returns
returns c = subst (λ (ts : List Task). GrowsBy (OneHas IsTaskPair c.args.tasks.now.items) (OneHas IsTaskPair ts) (IsPairAt c.args.members.now c.args.singly c.args.bytes.0 c.args.bytes.1)) (sym c.in_ok-push.ensures.items)
    (Adds-pushed IsTaskPair c.args.tasks.now.items _)
