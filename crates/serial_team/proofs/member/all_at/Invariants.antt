use Rattle.std.proofs.Common.{◌≡◌, ◌<◌, ℕ, slice_index_or}
use Rattle.serial_team.proofs.member.all_at.Given as goal

abbrev pub invariant-loop-member : goal.invariant-loop-member
invariant-loop-member l = record { so_far : (k : ℕ) → k < l.member-index → (d : _) → (slice_index_or l.fn.members k d).stage ≡ l.fn.stage }
