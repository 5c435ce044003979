use Rattle.std.proofs.Common.{◌≡◌, ◌<◌, ◌≤◌, ℕ, length, slice_index_or, drop, map}
use Rattle.lane_runner.specs.Lane.{IsWithoutHand, hand_view}
use Rattle.region_runner.proofs.SplitHands.{HasJoined}
use Rattle.region_runner.proofs.handing.join_hands.Given as goal

abbrev pub invariant-loop-lane : goal.invariant-loop-lane
invariant-loop-lane g l = record {
  count : length l.lanes ≡ length l.fn.lanes;
  hand : HasJoined (drop l.lane-index (map hand_view l.fn.lanes)) (map hand_view l.fn.lanes) l.fn.hand l.hand;
  done : (i : ℕ) (d : _) → i < l.lane-index → IsWithoutHand (slice_index_or l.fn.lanes i d) (slice_index_or l.lanes i d);
  left : (i : ℕ) (d : _) → l.lane-index ≤ i → slice_index_or l.lanes i d ≡ slice_index_or l.fn.lanes i d;
}
