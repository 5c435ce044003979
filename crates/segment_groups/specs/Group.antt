-- Groups of labels: those that can be concurrent by the lane at one depth.
use Rattle.std.specs.Prelude.{◌≡◌, ℕ, zero, suc, ◌%◌, ◌<◌, List, [], ◌∷◌, length, Option, Some, None, slice_get}
use Rattle.race_model.specs.Label.{Triple}
use Rattle.log_segment.specs.declared.segment.Segment.{Segment}

-- the triples above a depth, and the span and the barrier number there
abbrev pub group_key : ℕ → List Triple → List ℕ
group_key depth [] = []
group_key zero (t ∷ label) = t.span ∷ t.barrier ∷ []
group_key (suc depth) (t ∷ label) = t.span ∷ t.barrier ∷ t.offset ∷ group_key depth label

-- the lane at a depth
abbrev pub lane_in : Option Triple → ℕ
lane_in None = 0
lane_in (Some t) = t.offset % t.span

abbrev pub lane_at : ℕ → List Triple → ℕ
lane_at depth label = lane_in (slice_get label depth)

-- both labels reach the depth, in one group there: the same team, and as many barriers passed
pub record ShareGroup (depth : ℕ) (label other : List Triple) : Type 0 where
  pub mine : depth < length label
  pub yours : depth < length other
  pub same : group_key depth label ≡ group_key depth other

-- the label of a segment, and none where there is no segment
abbrev pub label_of : Option Segment → List Triple
label_of None = []
label_of (Some segment) = segment.label

abbrev pub label_at : List Segment → ℕ → List Triple
label_at segments position = label_of (slice_get segments position)
