-- Offset-span labels (Mellor-Crummey, Supercomputing 1991), with a barrier number in each triple.
use Rattle.std.specs.Prelude.{◌≡◌, ◌⊎◌, ℕ, ◌+◌, ◌*◌, ◌%◌, ◌<◌, List, [], ◌∷◌, ◌++◌}
use Rattle.race_model.specs.Trace.{Logs, Node, regions_before, barriers_before}
use Rattle.race_model.specs.Order.{IsLane}

-- one level of nesting: the lane plus the span for each region that it has forked there, and its team's barriers so far
pub record Triple : Type 0 where
  pub offset : ℕ
  pub span : ℕ
  pub barrier : ℕ

-- the last triple of a record in a lane
abbrev pub lane_triple : Logs → Node → ℕ → ℕ → Triple
lane_triple logs x lane span = record { offset = lane + span * regions_before logs x; span = span; barrier = barriers_before logs x }

-- the label of a record: its task's label at the fork, and then a triple of its own
pub data IsLabel (logs : Logs) : Node → List Triple → Type 0 where
  root : (x : Node) → x.path ≡ [] → IsLabel logs x (record { offset = regions_before logs x; span = 1; barrier = 0 } ∷ [])
  lane : (fork x : Node) (number span : ℕ) (above : List Triple) → IsLane logs fork number span x.path → IsLabel logs fork above → IsLabel logs x (above ++ lane_triple logs x number span ∷ [])

-- what orders two labels at the first triple that differs
pub record IsTripleBefore (x y : Triple) : Type 0 where
  pub same_span : x.span ≡ y.span
  pub earlier : (x.barrier < y.barrier) ⊎ ((x.barrier ≡ y.barrier) × (x.offset < y.offset) × (x.offset % x.span ≡ y.offset % y.span))

-- a label is before another that goes on from it, or where the first differing triples are in order
pub data IsLabelBefore : List Triple → List Triple → Type 0 where
  prefix : (y : Triple) (ys : List Triple) → IsLabelBefore [] (y ∷ ys)
  same : (x : Triple) (xs ys : List Triple) → IsLabelBefore xs ys → IsLabelBefore (x ∷ xs) (x ∷ ys)
  differ : (x y : Triple) (xs ys : List Triple) → (x ≡ y → ⊥) → IsTripleBefore x y → IsLabelBefore (x ∷ xs) (y ∷ ys)

-- two labels that differ, neither before the other
pub record IsConcurrent (x y : List Triple) : Type 0 where
  pub different : x ≡ y → ⊥
  pub not_before : IsLabelBefore x y → ⊥
  pub not_after : IsLabelBefore y x → ⊥
