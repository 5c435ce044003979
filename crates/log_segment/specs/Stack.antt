-- The labels of the forks of the tasks above.
use Rattle.std.specs.Prelude.{◌≡◌, ℕ, ◌<◌, List, length, take, Some, slice_get}
use Rattle.std.specs.Global.{Vec}
use Rattle.sw_base.specs.declared.path.Step.{Step}
use Rattle.race_model.specs.Label.{Triple}
use Rattle.race_model.specs.Trace.{Logs}
use Rattle.log_segment.specs.Walking.{AreForks}

-- the label at which this step of the path above was forked is there
pub record HasFork (forks : List (Vec (List Triple))) (above : List Step) (step : Step) : Type 0 where
  pub labels : Vec (List Triple)
  pub row : slice_get forks (length above) ≡ Some labels
  pub label : List Triple
  pub found : slice_get labels.items step.region ≡ Some label
  pub room : length label < 5
  pub in_team : step.lane < step.span

-- the labels of the forks of the task at this depth of a path are there
pub record HasForks (logs : Logs) (forks : List (Vec (List Triple))) (path : List Step) (depth : ℕ) : Type 0 where
  pub labels : Vec (List Triple)
  pub row : slice_get forks depth ≡ Some labels
  pub are : AreForks logs (take depth path) (length (logs (take depth path))) labels.items
