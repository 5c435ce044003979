use Rattle.std.proofs.Common.{◌≡◌, ◌<◌, ◌≤◌, ℕ, length, Ok, slice_index_or}
use Rattle.std.specs.Vec.{vec_capacity, vec_len}
use Rattle.region_runner.specs.Opening.{ClosesAs}
use Rattle.region_runner.proofs.closing.close_all.Given as goal

abbrev pub invariant-loop-lane : goal.invariant-loop-lane
invariant-loop-lane g l = record {
  len : vec_len l.closed ≡ length l.yielded;
  room : length l.fn.lanes.items ≤ vec_capacity l.closed;
  count : length l.closed.items ≡ length l.yielded;
  each : (k : ℕ) (d : _) (e : _) → k < length l.yielded → ClosesAs (Ok (slice_index_or l.yielded k d)) (slice_index_or l.closed.items k e);
}
