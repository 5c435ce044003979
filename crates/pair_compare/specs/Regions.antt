-- The races of a run, one region of the root after another.
use Rattle.std.specs.Prelude.{ℕ, ◌<◌, ◌≤◌, List}
use Rattle.sw_base.specs.declared.path.Step.{Step}
use Rattle.race_model.specs.Race.{IsRacePair}
use Rattle.race_model.specs.Trace.{Logs}
use Rattle.log_segment.specs.Regions.{IsUnderRegion}

-- the task is under one of the root's regions, from the first to before the second number
pub record IsUnderRegions (from to : ℕ) (path : List Step) : Type 0 where
  pub region : ℕ
  pub at_least : from ≤ region
  pub below : region < to
  pub under : IsUnderRegion region path

-- the line pair of a race whose accesses are both in such tasks
pub record IsRacePairAmong (logs : Logs) (IsOne : List Step → Type 0) (pair : ℕ × ℕ) : Type 0 where
  pub races : IsRacePair logs pair
  pub left : IsOne races.x.path
  pub right : IsOne races.y.path

-- the line pair of a race whose accesses are both in one of the root's first regions
pub record IsRacePairBelow (logs : Logs) (regions : ℕ) (pair : ℕ × ℕ) : Type 0 where
  pub region : ℕ
  pub below : region < regions
  pub among : IsRacePairAmong logs (IsUnderRegion region) pair
