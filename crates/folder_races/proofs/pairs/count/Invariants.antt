use Rattle.std.proofs.Common.{◌≡◌, ◌-◌, ◌^◌, min, take}
use Rattle.folder_races.specs.Waiting.{size_of}
use Rattle.folder_races.proofs.pairs.count.Given as goal

abbrev pub invariant-loop-segment : goal.invariant-loop-segment
invariant-loop-segment l = l.count ≡ min (size_of (take l.segment-index l.segments)) (2 ^ 64 - 1)
