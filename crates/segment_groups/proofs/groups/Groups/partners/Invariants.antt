use Rattle.std.proofs.Common.{◌-◌, length}
use Rattle.segment_groups.specs.Group.{label_at}
use Rattle.segment_groups.specs.Partners.{HandsOver}
use Rattle.segment_groups.proofs.Depths.{IsDeeper}
use Rattle.segment_groups.proofs.groups.Groups.partners.Given as goal

abbrev pub invariant-loop-level : goal.invariant-loop-level
invariant-loop-level g l =
    HandsOver g.V.Partner.took (IsDeeper (length l.level-items - l.level-index) (label_at l.self) l.at) l.initial.visit l.visit l.initial.steps l.steps
