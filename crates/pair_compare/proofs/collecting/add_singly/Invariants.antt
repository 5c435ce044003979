use Rattle.pair_compare.specs.Conflict.{GrowsBy, OneHas}
use Rattle.pair_compare.specs.Sweeps.{IsHullOf}
use Rattle.pair_compare.specs.Work.{IsMetSingle}
use Rattle.pair_compare.proofs.collecting.add_singly.Given as goal

abbrev pub invariant-loop-place : goal.invariant-loop-place
invariant-loop-place l = GrowsBy (OneHas IsHullOf l.initial.hulls.items) (OneHas IsHullOf l.hulls.items) (IsMetSingle l.task.low l.task.high l.part l.run l.place)
