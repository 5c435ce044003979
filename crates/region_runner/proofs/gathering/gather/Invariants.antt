use Rattle.std.proofs.Common.{◌≡◌, ◌≤◌, length, map, slice_index_or}
use Rattle.lane_runner.specs.Handed.{entries_of}
use Rattle.shared_words.specs.Draws.{IsFirstAlone, HasEachOnce}
use Rattle.shared_words.specs.Handles.{with_view}
use Rattle.region_runner.specs.Drawing.{regained_all}
use Rattle.region_runner.specs.Gathering.{ClosedValue, draws_view}
use Rattle.region_runner.proofs.GatheredLanes.{HasGathered}
use Rattle.region_runner.proofs.gathering.gather.Given as goal

abbrev pub invariant-loop-lane : goal.invariant-loop-lane
invariant-loop-lane g l = record {
  gathered : (d : ClosedValue) → HasGathered (length l.yielded) (λ k. slice_index_or l.fn.lanes.items k d)
      (entries_of g.L.Log l.fn.done.items)
      (entries_of g.L.Log l.done.items) l.worst;
  share : l.share ≡ with_view l.fn.share (regained_all (map draws_view l.yielded) l.fn.share.view);
  all : 1 ≤ length l.yielded → IsFirstAlone l.share.view → HasEachOnce l.share.view;
}
