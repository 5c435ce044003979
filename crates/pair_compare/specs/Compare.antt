-- The racing line pairs of segments.
use Rattle.std.specs.Prelude.{ℕ, List, Contains}
use Rattle.race_model.specs.Label.{IsConcurrent}
use Rattle.log_segment.specs.declared.segment.Segment.{Segment}
use Rattle.pair_compare.specs.Conflict.{IsConflictPair}

-- the line pair of a conflict of two segments with concurrent labels
pub record IsRacingPair (a b : Segment) (pair : ℕ × ℕ) : Type 0 where
  pub concurrent : IsConcurrent a.label b.label
  pub conflict : IsConflictPair a.runs.items b.runs.items pair

-- the line pair of two of the segments
pub record IsSegmentPair (segments : List Segment) (pair : ℕ × ℕ) : Type 0 where
  pub a : Segment
  pub b : Segment
  pub a_in : Contains segments a
  pub b_in : Contains segments b
  pub racing : IsRacingPair a b pair
