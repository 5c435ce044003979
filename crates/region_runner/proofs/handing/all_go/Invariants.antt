use Rattle.std.proofs.Common.{◌≡◌, ◌<◌, ℕ, None, slice_index_or}
use Rattle.region_runner.proofs.handing.all_go.Given as goal

abbrev pub invariant-loop-lane : goal.invariant-loop-lane
invariant-loop-lane g l = record { so_far : (k : ℕ) (d : _) → k < l.lane-index → (slice_index_or l.fn.lanes k d).stopped ≡ None }
