use Rattle.std.proofs.Common.{◌≡◌, take}
use Rattle.explain.proofs.suspecting.suspects_of.Given as goal

abbrev pub invariant-loop-segment : goal.invariant-loop-segment
invariant-loop-segment l = l.suspects.items ≡ take l.segment-index l.segments
