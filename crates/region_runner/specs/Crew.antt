-- What the lanes of a team have in common.
use Rattle.std.specs.Prelude.{◌≡◌, ℕ, List}
use Rattle.kernel_syntax.specs.declared.syntax.Array.{Array}
use Rattle.kernel_syntax.specs.Layout.{ArePlaced, elements}
use Rattle.shared_words.specs.Handles.{WordsValue, ChunksValue}
use Rattle.execution_model.specs.Elements.{HaveOwnWords}
use Rattle.lane_runner.specs.World.{WorldValue}

-- the kernel's arrays, the shared words, the team's counters, and how many lanes it has
pub record CrewValue : Type 0 where
  pub arrays : List Array
  pub words : WordsValue
  pub chunks : ChunksValue
  pub span : ℕ

-- where a lane of the team runs
abbrev pub world_of : CrewValue → ℕ → WorldValue
world_of c lane = record { arrays = c.arrays; words = c.words; chunks = c.chunks; lane = lane; span = c.span }

-- the table has as many words as the arrays have elements, and each of these is a word of its own
pub record IsCrew (c : CrewValue) : Type 0 where
  pub count : c.words.elements ≡ elements c.arrays
  pub placed : ArePlaced c.arrays c.words.elements
  pub apart : HaveOwnWords c.arrays
