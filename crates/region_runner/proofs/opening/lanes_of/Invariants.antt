use Rattle.std.proofs.Common.{◌≡◌, map, Ok}
use Rattle.region_runner.proofs.opening.lanes_of.Given as goal

abbrev pub invariant-loop-lane : goal.invariant-loop-lane
invariant-loop-lane g l = record { so_far : l.yielded ≡ map (λ m. Ok m) l.lanes.items }
