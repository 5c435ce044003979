use Rattle.std.proofs.Common.{take, []}
use Rattle.pair_compare.specs.Conflict.{GrowsBy, OneHas}
use Rattle.pair_compare.specs.Sweeps.{IsHullOf}
use Rattle.pair_compare.specs.Work.{IsMemberReach}
use Rattle.pair_compare.proofs.collecting.collect.Given as goal

abbrev pub invariant-loop-member : goal.invariant-loop-member
invariant-loop-member l = GrowsBy (OneHas IsHullOf []) (OneHas IsHullOf l.hulls.items) (OneHas (IsMemberReach l.task.singly l.task.low l.task.high) (take l.member-index l.task.members.now))
