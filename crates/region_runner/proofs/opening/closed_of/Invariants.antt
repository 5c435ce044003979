use Rattle.std.proofs.Common.{◌≡◌, ◌<◌, ℕ, length, slice_index_or}
use Rattle.region_runner.specs.Opening.{ClosesAs}
use Rattle.region_runner.proofs.opening.closed_of.Given as goal

abbrev pub invariant-loop-lane : goal.invariant-loop-lane
invariant-loop-lane g l = record {
  count : length l.lanes.items ≡ length l.yielded;
  each : (k : ℕ) (d : _) (e : _) → k < length l.yielded → ClosesAs (slice_index_or l.yielded k d) (slice_index_or l.lanes.items k e);
}
