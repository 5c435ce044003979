use Rattle.std.proofs.Common.{take}
use Rattle.pair_compare.specs.Fields.{AreWithin}
use Rattle.pair_compare.proofs.field.extremes.Given as goal

abbrev pub invariant-loop-member : goal.invariant-loop-member
invariant-loop-member l = AreWithin l.level l.field l.least l.most (take l.member-index l.members)
