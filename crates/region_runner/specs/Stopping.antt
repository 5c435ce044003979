-- How a task stops that doesn't go on, and how its region does by it.
use Rattle.std.specs.Prelude.{◌≡◌, ℕ, List, ◌++◌, Some}
use Rattle.sw_base.specs.declared.path.Step.{Step}
use Rattle.kernel_syntax.specs.declared.syntax.Array.{Array}
use Rattle.kernel_syntax.specs.Program.{Program}
use Rattle.kernel_model.specs.Trace.{Ending, Start}
use Rattle.history_model.specs.Work.{Work}
use Rattle.lane_runner.specs.Stopping.{EndsBelow, IsLeastBelow, IsNoTrouble, RestsBelow, ending_for}
use Rattle.lane_runner.specs.declared.stop.Stop.{Stop}
use Rattle.lane_runner.specs.declared.stop.Stop.TheVariants as stop

-- the path is that of the task at this path, or of one below it
pub record IsAtOrBelow (own path : List Step) : Type 0 where
  pub rest : List Step
  pub path_is : path ≡ own ++ rest

-- the task of this path, the task itself or one below it, ends so
pub record EndsUnder (program : Program) (end : Ending) (own path : List Step) (start : Start) (works : List Work) : Type 0 where
  pub at : IsAtOrBelow own path
  pub ends : EndsBelow program end start works at.rest

-- the regions of that task ended, and after the last one, at this line, it put no record
pub record RestsUnder (line : ℕ) (own path : List Step) (works : List Work) : Type 0 where
  pub at : IsAtOrBelow own path
  pub rests : RestsBelow line works at.rest

-- at each step from that task on to the one that stopped, each smaller lane of the region went further
pub record IsLeastUnder (own path : List Step) (works : List Work) : Type 0 where
  pub at : IsAtOrBelow own path
  pub least : IsLeastBelow works at.rest

-- Under the task at the path `own`, with this start and these works, the task of this path stopped so: a stop that traces tell is how
-- its trace ends, in each kernel of these arrays; where too many tasks were below it, it did so after a region; and but for trouble,
-- each smaller lane went further.
pub record StopsTask (arrays : List Array) (own path : List Step) (why : Stop) (start : Start) (works : List Work) : Type 0 where
  pub at : IsAtOrBelow own path
  pub traced : (program : Program) → program.arrays ≡ arrays → (end : Ending) → ending_for why ≡ Some end → EndsUnder program end own path start works
  pub crowded : (line : ℕ) → why ≡ stop.Tasks line → RestsUnder line own path works
  pub least : IsNoTrouble why → IsLeastUnder own path works
