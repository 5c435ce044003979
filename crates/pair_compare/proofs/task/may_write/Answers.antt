use Rattle.std.proofs.Common.{rules}
use Rattle.pair_compare.proofs.Reaching.{member_meets, not_so, still_quiet}
use Rattle.pair_compare.proofs.task.may_write.Goals as goal

pub returns-then-not-member : goal.returns-then-not-member
returns-then-not-member c e = still_quiet c.args.low c.args.high c.args.member.now (search rules)

pub returns : goal.returns
returns c none singly reach h = absurd (not_so (c.meets.ensures.1 (member_meets singly c.args.low c.args.high c.args.member.now reach h)) none)
