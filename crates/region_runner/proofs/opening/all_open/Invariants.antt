use Rattle.std.proofs.Common.{◌<◌, ℕ, slice_index_or}
use Rattle.std.specs.Prelude.{IsOk}
use Rattle.region_runner.proofs.opening.all_open.Given as goal

abbrev pub invariant-loop-lane : goal.invariant-loop-lane
invariant-loop-lane g l = record { so_far : (k : ℕ) (d : _) → k < l.lane-index → IsOk (slice_index_or l.fn.opened k d) }
