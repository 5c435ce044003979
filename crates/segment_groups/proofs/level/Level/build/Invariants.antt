use Rattle.std.proofs.Common.{length}
use Rattle.segment_groups.specs.Group.{label_at}
use Rattle.segment_groups.specs.Level.{AreHeads, IsThreaded}
use Rattle.segment_groups.proofs.level.Level.build.Given as goal

abbrev pub invariant-loop-at : goal.invariant-loop-at
invariant-loop-at l =
    IsThreaded l.depth (label_at l.segments) l.at (length l.segments) l.level.next.items l.level.later.items × AreHeads l.depth (label_at l.segments) l.at l.heads
