-- The paths of lanes.
use Rattle.std.proofs.Common.{◌≡◌, ap, subst, arith, ℕ, ◌<◌, List, [], ◌∷◌, ◌++◌, length}
use Rattle.std.proofs.lemmas.List.{length_push, same_from_push}
use Rattle.sw_base.specs.declared.path.Step.{Step}
use Rattle.lane_runner.specs.Lane.{IsLanePath}

-- the path of the root has no step
pub root_path : IsLanePath []
root_path above step is =
    let none : 0 ≡ length (above ++ step ∷ []) = ap (λ (steps : List Step). length steps) is in
    let some = length_push above step in
    absurd (omega (arith, none, some))

-- a lane of a region has a number below the number of its lanes
pub lane_path : (path : List Step) (region lane span : ℕ) → lane < span → IsLanePath (path ++ record { region = region; lane = lane; span = span } ∷ [])
lane_path path region lane span less above step is =
    subst (λ (s : Step). s.lane < s.span) (same_from_push path above (record { region = region; lane = lane; span = span }) step is).1 less
