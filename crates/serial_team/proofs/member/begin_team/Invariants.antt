use Rattle.std.proofs.Common.{◌≡◌, ◌<◌, ℕ, length, slice_index_or}
use Rattle.kernel_syntax.specs.Program.{team_of}
use Rattle.serial_team.specs.Members.{BeginsLane, all_idle}
use Rattle.serial_team.proofs.member.begin_team.Given as goal

abbrev pub invariant-loop-lane : goal.invariant-loop-lane
invariant-loop-lane l = record {
  count : length (all_idle l.members.items) ≡ l.lane;
  each : (k : ℕ) → k < l.lane → (d : _) → BeginsLane l.fn.arrays (team_of l.fn.team) l.fn.locals.slots.items k (slice_index_or (all_idle l.members.items) k d);
}
