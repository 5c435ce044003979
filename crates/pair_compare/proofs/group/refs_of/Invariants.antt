use Rattle.std.proofs.Common.{◌≡◌, ◌≤◌, All, length, take}
use Rattle.pair_compare.specs.Groups.{pointed}
use Rattle.pair_compare.proofs.group.refs_of.Given as goal

abbrev pub invariant-loop-segment : goal.invariant-loop-segment
invariant-loop-segment l = (pointed l.refs.items ≡ take l.segment-index l.segments) × All (λ s. length s.now.label ≤ 5) l.refs.items
