use Rattle.std.proofs.Common.{◌≡◌, ◌<◌, ◌≤◌, ℕ, length, slice_index_or}
use Rattle.lane_runner.specs.Lane.{with_hand}
use Rattle.region_runner.specs.Hands.{lane_hand}
use Rattle.region_runner.proofs.SplitHands.{HasSplit}
use Rattle.region_runner.proofs.handing.split_hands.Given as goal

abbrev pub invariant-loop-lane : goal.invariant-loop-lane
invariant-loop-lane g l = record {
  index : l.index ≡ l.lane-index;
  count : length l.lanes ≡ l.span;
  hand : HasSplit l.span l.fn.hand l.hand l.index;
  done : (i : ℕ) (d : _) → i < l.lane-index → slice_index_or l.lanes i d ≡ with_hand (slice_index_or l.fn.lanes i d) (lane_hand l.fn.hand i);
  left : (i : ℕ) (d : _) → l.lane-index ≤ i → slice_index_or l.lanes i d ≡ slice_index_or l.fn.lanes i d;
}
