-- Where a lane runs, and where its elements stand among the shared words.
use Rattle.std.specs.Prelude.{◌≡◌, ℕ, ◌<◌, List}
use Rattle.kernel_syntax.specs.declared.syntax.Array.{Array}
use Rattle.kernel_syntax.specs.Layout.{ArePlaced, elements}
use Rattle.execution_model.specs.Elements.{HaveOwnWords}
use Rattle.shared_words.specs.Handles.{WordsValue, ChunksValue}

-- the kernel's arrays and the words, and where the lane stands in its team
pub record WorldValue : Type 0 where
  pub arrays : List Array
  pub words : WordsValue
  pub chunks : ChunksValue
  pub lane : ℕ
  pub span : ℕ

-- the table has as many words as the arrays have elements, and each of these is a word of its own; and the team has the lane
pub record IsWorld (w : WorldValue) : Type 0 where
  pub count : w.words.elements ≡ elements w.arrays
  pub placed : ArePlaced w.arrays w.words.elements
  pub apart : HaveOwnWords w.arrays
  pub within : w.lane < w.span
