-- A region stops by a lane of it that stopped, where each smaller lane went further.
use Rattle.std.proofs.Common.{◌≡◌, ap, ◌∙◌, ℕ, ◌<◌, List, [], ◌∷◌, ◌++◌, append_assoc}
use Rattle.sw_base.specs.declared.path.Step.{Step}
use Rattle.kernel_syntax.specs.declared.syntax.Array.{Array}
use Rattle.kernel_model.specs.State.{Fork}
use Rattle.history_model.specs.Work.{Phases, lane_works}
use Rattle.execution_model.specs.Runs.{lane_begin}
use Rattle.lane_runner.specs.declared.stop.Stop.{Stop}
use Rattle.lane_runner.specs.Stopping.{IsLeastLane, IsNoTrouble, StopsRegion}
use Rattle.region_runner.specs.Stopping.{IsAtOrBelow, StopsTask}

module _ (fork : Fork) (lane : ℕ) (within : lane < fork.team.span) (phases : Phases) (at : List Step) (number : ℕ) (own_path : List Step)
    (path_is : own_path ≡ at ++ record { region = number; lane = lane; span = fork.team.span } ∷ []) where
  -- a task at or below the lane, by its region
  in_region : (path : List Step) (below : IsAtOrBelow own_path path) → path ≡ at ++ record { region = number; lane = lane; span = fork.team.span } ∷ below.rest
  in_region path below =
      below.path_is ∙ ap (λ (p : List Step). p ++ below.rest) path_is ∙ append_assoc at (record { region = number; lane = lane; span = fork.team.span } ∷ []) below.rest

  pub region_stops : (arrays : List Array) (path : List Step) (why : Stop) → StopsTask arrays own_path path why (lane_begin fork lane) (lane_works lane phases) → (IsNoTrouble why → IsLeastLane phases lane) → StopsRegion arrays at number path why fork phases
  region_stops arrays path why s least = record {
    inside = record { lane = lane; below = s.at.rest; path_is = in_region path s.at };
    traced = λ program same end told.
        let ends = s.traced program same end told in
        record { lane = lane; within = within; below = ends.at.rest; path_is = in_region path ends.at; ends = ends.ends };
    crowded = λ line told.
        let rests = s.crowded line told in
        record { lane = lane; within = within; below = rests.at.rest; path_is = in_region path rests.at; rests = rests.rests };
    least = λ other.
        let down = s.least other in
        record { lane = lane; within = within; below = down.at.rest; path_is = in_region path down.at; least = least other; down = down.least };
  }
