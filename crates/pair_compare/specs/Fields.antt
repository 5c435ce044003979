-- What labels are compared by: level by level, at each whether it is there, and the span, the barrier number, the lane and the offset.
use Rattle.std.specs.Prelude.{◌≡◌, ℕ, ◌+◌, ◌%◌, ◌<◌, ◌≤◌, List, ◌∷◌, ◌++◌, length, All, Option, Some, None, slice_get, slice_index_or}
use Rattle.std.specs.Borrow.{Bor}
use Rattle.std.specs.List.Sorted.{IsNonDecreasingBy}
use Rattle.race_model.specs.Label.{Triple}
use Rattle.log_segment.specs.declared.segment.Segment.{Segment}
use Rattle.stride_summary.specs.declared.run.Run.{Run}
use Rattle.pair_compare.specs.Compare.{IsSegmentPair}
use Rattle.pair_compare.specs.Conflict.{OneHas}
use Rattle.pair_compare.specs.Groups.{IsNumbered}
use Rattle.pair_compare.specs.declared.field.Field.{Field}
use Rattle.pair_compare.specs.declared.field.Field.TheVariants.{Depth, Span, Barrier, Residue, Offset}

abbrev pub field_value : Field → Option Triple → ℕ
field_value field None = 0
field_value Depth (Some t) = 1
field_value Span (Some t) = t.span
field_value Barrier (Some t) = t.barrier
field_value Residue (Some t) = t.offset % t.span
field_value Offset (Some t) = t.offset

abbrev pub label_value : ℕ → Field → List Triple → ℕ
label_value level field label = field_value field (slice_get label level)

-- a triple has these values before the field
abbrev pub AgreesBefore : Field → Triple → Triple → Type 0
AgreesBefore Depth known t = Unit {0}
AgreesBefore Span known t = Unit {0}
AgreesBefore Barrier known t = t.span ≡ known.span
AgreesBefore Residue known t = (t.span ≡ known.span) × (t.barrier ≡ known.barrier)
AgreesBefore Offset known t = (t.span ≡ known.span) × (t.barrier ≡ known.barrier) × (t.offset % t.span ≡ known.offset % known.span)

-- a label has these triples first, and then one that agrees as far as the field
pub record HasTriple (field : Field) (prefix : List Triple) (known : Triple) (label : List Triple) : Type 0 where
  pub own : Triple
  pub rest : List Triple
  pub parts : label ≡ prefix ++ own ∷ rest
  pub agrees : AgreesBefore field known own

abbrev pub Agrees : Field → List Triple → Triple → List Triple → Type 0
Agrees Depth prefix known label = (rest : List Triple) × (label ≡ prefix ++ rest)
Agrees Span prefix known label = HasTriple Span prefix known label
Agrees Barrier prefix known label = HasTriple Barrier prefix known label
Agrees Residue prefix known label = HasTriple Residue prefix known label
Agrees Offset prefix known label = HasTriple Offset prefix known label

-- the labels are the same before the field of the level
pub record AreAlike (level : ℕ) (field : Field) (refs : List (Bor Segment)) : Type 0 where
  pub prefix : List Triple
  pub known : Triple
  pub long : length prefix ≡ level
  pub each : All (λ s. Agrees field prefix known s.now.label) refs

-- the values are in this range
abbrev pub AreWithin : ℕ → Field → ℕ → ℕ → List (Bor Segment) → Type 0
AreWithin level field low high refs = All (λ s. (low ≤ label_value level field s.now.label) × (label_value level field s.now.label ≤ high)) refs

-- the values don't descend
abbrev pub AreInOrder : ℕ → Field → List (Bor Segment) → Type 0
AreInOrder level field refs = IsNonDecreasingBy (λ s. label_value level field s.now.label) refs

-- the first so many have a value up to the middle, and the others a greater one
pub record AreCut (level : ℕ) (field : Field) (middle n : ℕ) (refs : List (Bor Segment)) : Type 0 where
  pub within : n ≤ length refs
  pub first : (i : ℕ) (d : Bor Segment) → i < n → label_value level field (slice_index_or refs i d).now.label ≤ middle
  pub rest : (i : ℕ) (d : Bor Segment) → n ≤ i → i < length refs → middle < label_value level field (slice_index_or refs i d).now.label

-- how many fields of the level are left
abbrev pub fields_left : Field → ℕ
fields_left Depth = 5
fields_left Span = 4
fields_left Barrier = 3
fields_left Residue = 2
fields_left Offset = 1

-- the next field of the level, or the first of the next one
abbrev pub next_field : Field → Field
next_field Depth = Span
next_field Span = Barrier
next_field Barrier = Residue
next_field Residue = Offset
next_field Offset = Depth

abbrev pub next_level : Field → ℕ → ℕ
next_level Depth level = level
next_level Span level = level
next_level Barrier level = level
next_level Residue level = level
next_level Offset level = level + 1

-- the labels have no such level
abbrev pub HasNoLevel : Field → ℕ → Type 0
HasNoLevel Depth most = most ≡ 0
HasNoLevel Span most = ⊥
HasNoLevel Barrier most = ⊥
HasNoLevel Residue most = ⊥
HasNoLevel Offset most = ⊥

-- labels that differ first in the field are concurrent
abbrev pub Parts : Field → Type 0
Parts Depth = ⊥
Parts Span = Unit {0}
Parts Barrier = ⊥
Parts Residue = Unit {0}
Parts Offset = ⊥

-- one of the segment's runs, with the segment's value of the field
abbrev pub IsRunIn : ℕ → Field → Bor Segment → ℕ × Run → Type 0
IsRunIn level field s numbered = OneHas (IsNumbered (label_value level field s.now.label)) s.now.runs.items numbered

-- the pair of two of the segments whose values of the field are the same
pub record IsSamePair (level : ℕ) (field : Field) (segments : List Segment) (pair : ℕ × ℕ) : Type 0 where
  pub two : IsSegmentPair segments pair
  pub same : label_value level field two.a.label ≡ label_value level field two.b.label

-- the pair of two of the segments whose values of the field differ
pub record IsApartPair (level : ℕ) (field : Field) (segments : List Segment) (pair : ℕ × ℕ) : Type 0 where
  pub two : IsSegmentPair segments pair
  pub apart : label_value level field two.a.label ≡ label_value level field two.b.label → ⊥

-- the segments' labels are the same before the field of the level, have at most five levels, and have values of the range there
pub record CanDivide (level : ℕ) (field : Field) (least most : ℕ) (refs : List (Bor Segment)) : Type 0 where
  pub alike : AreAlike level field refs
  pub deep : All (λ s. length s.now.label ≤ 5) refs
  pub within : AreWithin level field least most refs
