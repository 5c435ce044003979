-- What each label keeps of its levels.
use Rattle.std.specs.Prelude.{◌-◌, ◌≤◌, List, length, All, Option, slice_get}
use Rattle.race_model.specs.Label.{Triple}

-- a team has a lane
abbrev pub HasSpan : Triple → Type 0
HasSpan t = 1 ≤ t.span

-- one to five levels, each of a team with a lane
pub record HasLevels (label : List Triple) : Type 0 where
  pub some : 1 ≤ length label
  pub few : length label ≤ 5
  pub lanes : All HasSpan label

-- the task's own level, the last of its label
abbrev pub own_level : List Triple → Option Triple
own_level label = slice_get label (length label - 1)
