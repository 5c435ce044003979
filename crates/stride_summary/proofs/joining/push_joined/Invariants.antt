use Rattle.std.proofs.Common.{◌+◌, ◌≤◌, length, vec_len, vec_capacity}
use Rattle.stride_summary.proofs.Joined.{IsJoining}
use Rattle.stride_summary.proofs.joining.push_joined.Given as goal

abbrev pub invariant-rest : goal.invariant-rest
invariant-rest l = record {
  joining : IsJoining l.singles l.rest l.initial.runs.items l.runs.items;
  room : vec_len l.runs + length l.rest ≤ vec_capacity l.runs;
}

abbrev pub decreases-rest : goal.decreases-rest
decreases-rest l = length l.rest
