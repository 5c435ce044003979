-- The tasks of a fork-join run as a tree, and the depth-first listing of their paths.
use Rattle.std.specs.Prelude.{◌≡◌, ◌⊎◌, ℕ, ◌+◌, ◌<◌, ◌≤◌, List, [], ◌∷◌, ◌++◌, All}
use Rattle.sw_base.specs.declared.path.Step.{Step}

-- A task ends, or it forks a region and then goes on. A region has a first lane, and perhaps others; each is a task.
mutual
  pub data Task : Type 0 where
    Ends : Task
    Forks : (first : Task) → (others : Lanes) → (after : Task) → Task

  pub data Lanes : Type 0 where
    NoLane : Lanes
    Lane : (first : Task) → (others : Lanes) → Lanes

abbrev pub lane_count : Lanes → ℕ
lane_count NoLane = 0
lane_count (Lane first others) = 1 + lane_count others

-- the path of a lane of a region of the task with this path
abbrev pub lane_of : List Step → ℕ → ℕ → ℕ → List Step
lane_of path region lane span = path ++ record { region = region; lane = lane; span = span } ∷ []

-- `under path region task`: the paths under the task from the region of this number on, each lane followed at once by all
-- that is under it. `lanes path region lane span others`: the lanes of a region from this number on, and all under them.
abbrev mutual
  pub under : List Step → ℕ → Task → List (List Step)
  under path region Ends = []
  under path region (Forks first others after) =
      (lane_of path region 0 (1 + lane_count others) ∷ under (lane_of path region 0 (1 + lane_count others)) 0 first)
      ++ lanes path region 1 (1 + lane_count others) others
      ++ under path (region + 1) after

  pub lanes : List Step → ℕ → ℕ → ℕ → Lanes → List (List Step)
  lanes path region lane span NoLane = []
  lanes path region lane span (Lane first others) =
      (lane_of path region lane span ∷ under (lane_of path region lane span) 0 first)
      ++ lanes path region (lane + 1) span others

-- the paths of all tasks of a tree, the root first
abbrev pub listing : Task → List (List Step)
listing root = [] ∷ under [] 0 root

-- these are the paths of a tree's tasks
pub record IsListing (paths : List (List Step)) : Type 0 where
  pub root : Task
  pub lists : listing root ≡ paths

-- these are the first of the paths of a tree's tasks
pub record BeginsListing (paths : List (List Step)) : Type 0 where
  pub root : Task
  pub rest : List (List Step)
  pub lists : listing root ≡ paths ++ rest

-- the same told by a path and the next one alone

-- the last lane of its region
abbrev pub IsLastLane : Step → Type 0
IsLastLane step = step.lane + 1 ≡ step.span

-- the next lane of the same region
pub record IsNextLane (step next : Step) : Type 0 where
  pub region : next.region ≡ step.region
  pub span : next.span ≡ step.span
  pub lane : next.lane ≡ step.lane + 1
  pub within : next.lane < next.span

-- the first lane of a region
pub record IsFirstLane (region : ℕ) (step : Step) : Type 0 where
  pub region_is : step.region ≡ region
  pub lane : step.lane ≡ 0
  pub some : 1 ≤ step.span

-- after the last lane of a region, the first lane of the task's next one
pub record IsNextRegion (step next : Step) : Type 0 where
  pub last : IsLastLane step
  pub first : IsFirstLane (step.region + 1) next

-- the path that follows at once in a listing: the first lane under the path, or, where all that is lower is a last lane, the
-- next lane or the next region
abbrev pub IsNextPath : List Step → List Step → Type 0
IsNextPath path [] = ⊥
IsNextPath [] (next ∷ []) = IsFirstLane 0 next
IsNextPath (step ∷ below) (next ∷ []) = All IsLastLane below × (IsNextLane step next ⊎ IsNextRegion step next)
IsNextPath [] (next ∷ more ∷ others) = ⊥
IsNextPath (step ∷ below) (next ∷ more ∷ others) = (step ≡ next) × IsNextPath below (more ∷ others)
