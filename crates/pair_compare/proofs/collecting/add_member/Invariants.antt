use Rattle.std.proofs.Common.{take}
use Rattle.pair_compare.specs.Conflict.{GrowsBy, OneHas}
use Rattle.pair_compare.specs.Sweeps.{IsHullOf}
use Rattle.pair_compare.specs.Work.{IsMetReach}
use Rattle.pair_compare.proofs.collecting.add_member.Given as goal

abbrev pub invariant-loop-run : goal.invariant-loop-run
invariant-loop-run l = GrowsBy (OneHas IsHullOf l.initial.hulls.items) (OneHas IsHullOf l.hulls.items) (OneHas (IsMetReach l.task.singly l.task.low l.task.high l.member.part) (take l.run-index l.member.runs.now))
