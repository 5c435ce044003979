-- The arrays of a kernel within its bounds are where a lane can run.
use Rattle.std.proofs.Common.{◌≡◌, ℕ, ◌<◌, sym, subst}
use Rattle.shared_words.specs.Handles.{WordsValue, ChunksValue}
use Rattle.kernel_syntax.specs.Bounds.{IsBounded}
use Rattle.kernel_syntax.specs.Layout.{ArePlaced, elements}
use Rattle.kernel_syntax.specs.Program.{Program}
use Rattle.kernel_syntax.proofs.Placing.{bounded_arrays_are_placed}
use Rattle.execution_model.proofs.OwnWords.{own_words}
use Rattle.lane_runner.specs.World.{IsWorld}

-- with a table of as many words as they have elements
pub bounded_world : (program : Program) (words : WordsValue) (chunks : ChunksValue) (lane span : ℕ) → IsBounded program → words.elements ≡ elements program.arrays → lane < span
    → IsWorld (record { arrays = program.arrays; words = words; chunks = chunks; lane = lane; span = span })
bounded_world program words chunks lane span bounded count within = record {
  count = count;
  placed = subst (λ (n : ℕ). ArePlaced program.arrays n) (sym count) (bounded_arrays_are_placed program bounded);
  apart = own_words program bounded;
  within = within;
}
