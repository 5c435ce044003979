use Rattle.std.proofs.Common.{All, take}
use Rattle.pair_compare.specs.Work.{NeverWrites}
use Rattle.pair_compare.proofs.task.is_idle.Given as goal

abbrev pub invariant-loop-member : goal.invariant-loop-member
invariant-loop-member l = All (NeverWrites l.low l.high) (take l.member-index l.members)
