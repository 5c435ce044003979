use Rattle.std.proofs.Common.{◌+◌, take}
use Rattle.segment_groups.specs.Level.{HaveLevels}
use Rattle.segment_groups.proofs.groups.levels_below.Given as goal

abbrev pub invariant-loop-segment : goal.invariant-loop-segment
invariant-loop-segment l = HaveLevels (l.most + 1) (take l.segment-index l.segments)
