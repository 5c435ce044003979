-- How regions end, and how one stops.
use Rattle.std.specs.Prelude.{◌≡◌, ◌⊎◌, ℕ, ◌+◌, ◌<◌, List, [], ◌∷◌, ◌++◌, length, All, Option, Some, None, slice_get}
use Rattle.sw_base.specs.declared.path.Step.{Step}
use Rattle.log_format.specs.declared.record.Record.{Record}
use Rattle.std.specs.List.{flat_map}
use Rattle.kernel_syntax.specs.declared.syntax.Array.{Array}
use Rattle.kernel_syntax.specs.Program.{Program}
use Rattle.kernel_model.specs.declared.stop.StopWhy.TheVariants as reason
use Rattle.kernel_model.specs.State.{Fork}
use Rattle.kernel_model.specs.Trace.{Start, Ending, Stopped}
use Rattle.kernel_model.specs.Folder.{own_trace, IsTracedTo}
use Rattle.history_model.specs.Work.{Work, Phases, RegionWork, work_regions, lane_works}
use Rattle.race_model.specs.Trace.{barrier_count}
use Rattle.history_model.specs.Joined.{LastIsEnd, PhasesEnd, ArePhasesJoined}
use Rattle.execution_model.specs.Runs.{works_log, lane_begin}
use Rattle.execution_model.specs.Stops.{LastIsRegionAt}
use Rattle.lane_runner.specs.declared.stop.Stop.{Stop}
use Rattle.lane_runner.specs.declared.stop.Stop.TheVariants as stop

-- each of these regions ended: each lane put its End in the last phase, and whoever went on after a region waited for its lanes
abbrev pub HaveEnded : List RegionWork → Type 0
HaveEnded regions = All (λ (r : RegionWork). PhasesEnd r.phases × ArePhasesJoined r.phases) regions

-- how the trace of a task ends that stops so; none where no trace tells it: the run had too many tasks, no memory was found, or a
-- call on a log failed
abbrev pub ending_for : Stop → Option Ending
ending_for (stop.DivZero line) = Some (Stopped reason.DivZero line)
ending_for (stop.Index line) = Some (Stopped reason.Index line)
ending_for (stop.LogFull line) = Some (Stopped reason.LogFull line)
ending_for (stop.Tasks line) = None
ending_for (stop.Trouble trouble) = None

-- under a task with this start and these works, the task at this path ends so
pub data EndsBelow (program : Program) (end : Ending) : Start → List Work → List Step → Type 0 where
  itself : (start : Start) (works : List Work) → IsTracedTo program start (works_log works) end → EndsBelow program end start works []
  below : (start : Start) (works : List Work) (number : ℕ) (fork : Fork) (region : RegionWork) (lane : ℕ) (path : List Step)
      → slice_get (own_trace program start (works_log works)).forks number ≡ Some fork → slice_get (flat_map work_regions works) number ≡ Some region → lane < region.span
      → EndsBelow program end (lane_begin fork lane) (lane_works lane region.phases) path
      → EndsBelow program end start works (record { region = number; lane = lane; span = region.span } ∷ path)

-- The task of this path, a lane of the region or a task below one, ends so: the region is that of this number of the task `at`.
pub record EndsInLane (program : Program) (end : Ending) (at : List Step) (number : ℕ) (path : List Step) (fork : Fork) (phases : Phases) : Type 0 where
  pub lane : ℕ
  pub within : lane < fork.team.span
  pub below : List Step
  pub path_is : path ≡ at ++ record { region = number; lane = lane; span = fork.team.span } ∷ below
  pub ends : EndsBelow program end (lane_begin fork lane) (lane_works lane phases) below

-- under a task with these works, the regions of the task at this path ended, and after the last one, at this line, it put no record
pub data RestsBelow (line : ℕ) : List Work → List Step → Type 0 where
  itself : (works : List Work) → LastIsRegionAt line (works_log works) → HaveEnded (flat_map work_regions works) → RestsBelow line works []
  below : (works : List Work) (number : ℕ) (region : RegionWork) (lane : ℕ) (path : List Step) → slice_get (flat_map work_regions works) number ≡ Some region → lane < region.span
      → RestsBelow line (lane_works lane region.phases) path → RestsBelow line works (record { region = number; lane = lane; span = region.span } ∷ path)

-- so did the task of this path, a lane of the region or a task below one
pub record RestsInLane (line : ℕ) (at : List Step) (number span : ℕ) (path : List Step) (phases : Phases) : Type 0 where
  pub lane : ℕ
  pub within : lane < span
  pub below : List Step
  pub path_is : path ≡ at ++ record { region = number; lane = lane; span = span } ∷ below
  pub rests : RestsBelow line (lane_works lane phases) below

-- the path is that of a task of the region of this number of the task `at`: a lane, or a task below one
pub record IsInRegion (at : List Step) (number span : ℕ) (path : List Step) : Type 0 where
  pub lane : ℕ
  pub below : List Step
  pub path_is : path ≡ at ++ record { region = number; lane = lane; span = span } ∷ below

-- these records go further than others: they pass more barriers, or end
abbrev pub GoesFurther : List Record → List Record → Type 0
GoesFurther records others = (barrier_count others < barrier_count records) ⊎ LastIsEnd records

-- each smaller lane of the region went further than this one
abbrev pub IsLeastLane : Phases → ℕ → Type 0
IsLeastLane phases lane = (other : ℕ) → other < lane → GoesFurther (works_log (lane_works other phases)) (works_log (lane_works lane phases))

-- so at each step of the path, down from a task with these works
pub data IsLeastBelow : List Work → List Step → Type 0 where
  itself : (works : List Work) → IsLeastBelow works []
  below : (works : List Work) (number : ℕ) (region : RegionWork) (lane : ℕ) (path : List Step) → slice_get (flat_map work_regions works) number ≡ Some region → lane < region.span
      → IsLeastLane region.phases lane → IsLeastBelow (lane_works lane region.phases) path → IsLeastBelow works (record { region = number; lane = lane; span = region.span } ∷ path)

-- the task of this path is a lane of the region, or below one, and so at each step of the path from the region on
pub record IsLeastInLane (at : List Step) (number span : ℕ) (path : List Step) (phases : Phases) : Type 0 where
  pub lane : ℕ
  pub within : lane < span
  pub below : List Step
  pub path_is : path ≡ at ++ record { region = number; lane = lane; span = span } ∷ below
  pub least : IsLeastLane phases lane
  pub down : IsLeastBelow (lane_works lane phases) below

-- it isn't for want of memory or since a call failed
abbrev pub IsNoTrouble : Stop → Type 0
IsNoTrouble (stop.Trouble trouble) = ⊥
IsNoTrouble why = Unit {0}

-- The task of this path stopped so in the region: a stop that traces tell is how its trace ends, in each kernel of these arrays;
-- where too many tasks were below it, it did so after a region; and but for trouble, each smaller lane went further.
pub record StopsRegion (arrays : List Array) (at : List Step) (number : ℕ) (path : List Step) (why : Stop) (fork : Fork) (phases : Phases) : Type 0 where
  pub inside : IsInRegion at number fork.team.span path
  pub traced : (program : Program) → program.arrays ≡ arrays → (end : Ending) → ending_for why ≡ Some end → EndsInLane program end at number path fork phases
  pub crowded : (line : ℕ) → why ≡ stop.Tasks line → RestsInLane line at number fork.team.span path phases
  pub least : IsNoTrouble why → IsLeastInLane at number fork.team.span path phases

-- In the last of these regions the task of this path stopped so, and those before it ended: they are the regions of the task `at`
-- from this number on.
pub record StopsAtLast (arrays : List Array) (at : List Step) (number : ℕ) (path : List Step) (why : Stop) (forks : List Fork) (regions : List RegionWork) : Type 0 where
  pub earlier : List Fork
  pub fork : Fork
  pub forks_are : forks ≡ earlier ++ fork ∷ []
  pub before : List RegionWork
  pub region : RegionWork
  pub regions_are : regions ≡ before ++ region ∷ []
  pub span_is : region.span ≡ fork.team.span
  pub ended : HaveEnded before
  pub joined : ArePhasesJoined region.phases
  pub stopped : StopsRegion arrays at (number + length before) path why fork region.phases
