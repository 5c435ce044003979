use Rattle.std.proofs.Common.{◌≡◌, ◌-◌, ◌<◌, ℕ, length, get_or}
use Rattle.segment_groups.specs.Group.{label_at}
use Rattle.segment_groups.specs.Level.{IsLevel}
use Rattle.segment_groups.specs.declared.level.Level.{Level}
use Rattle.segment_groups.proofs.groups.Groups.build.Given as goal

abbrev pub invariant-loop-above : goal.invariant-loop-above
invariant-loop-above l =
    (length l.levels.items ≡ l.above)
    × ((k : ℕ) (d : Level) → k < l.above → (length (get_or l.levels.items k d).next.items ≡ length l.segments) × IsLevel (l.depth - k) (label_at l.segments) (get_or l.levels.items k d))
