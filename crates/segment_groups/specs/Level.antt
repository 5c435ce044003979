-- The groups at one depth, each as a chain of positions.
use Rattle.std.specs.Prelude.{◌≡◌, ℕ, ◌+◌, ◌-◌, ◌<◌, ◌≤◌, List, length, All, Option, Some, None, slice_index_or}
use Rattle.std.specs.BTreeMap.{BTreeMap, get}
use Rattle.std.specs.Cmp.Lexicographic.{slice_cmp}
use Rattle.std.specs.Global.{Vec}
use Rattle.std.specs.Ordering.{nat_cmp}
use Rattle.race_model.specs.Label.{Triple}
use Rattle.log_segment.specs.OneTree.{StandInOneTree}
use Rattle.log_segment.specs.declared.segment.Segment.{Segment}
use Rattle.segment_groups.specs.Group.{ShareGroup, group_key, label_at, lane_at}
use Rattle.segment_groups.specs.declared.level.Level.{Level}

abbrev pub Labels : Type 0
Labels = ℕ → List Triple

-- the position stands later in the group of another
pub record IsMember (depth : ℕ) (labels : Labels) (at other : ℕ) : Type 0 where
  pub later : at < other
  pub group : ShareGroup depth (labels at) (labels other)

-- and in a later lane
pub record IsInLaterLane (depth : ℕ) (labels : Labels) (at other : ℕ) : Type 0 where
  pub member : IsMember depth labels at other
  pub lane : lane_at depth (labels at) < lane_at depth (labels other)

-- the position is of a label with this key
pub record HasKey (depth : ℕ) (labels : Labels) (key : List ℕ) (position : ℕ) : Type 0 where
  pub deep : depth < length (labels position)
  pub keyed : group_key depth (labels position) ≡ key

-- the least number with the property, or none where there is none
abbrev pub IsLeastNumber : (ℕ → Type 0) → Option ℕ → Type 0
IsLeastNumber P None = (n : ℕ) → P n → ⊥
IsLeastNumber P (Some least) = P least × ((n : ℕ) → P n → least ≤ n)

-- in a group the lanes ascend with the positions
abbrev pub LanesAscend : ℕ → Labels → Type 0
LanesAscend depth labels = (i j : ℕ) → IsMember depth labels i j → lane_at depth (labels i) ≤ lane_at depth (labels j)

-- the chains of the positions from this one on: each has the next of its group, and the first in a later lane
pub record IsThreaded (depth : ℕ) (labels : Labels) (from count : ℕ) (nexts laters : List (Option ℕ)) : Type 0 where
  pub next_count : length nexts ≡ count
  pub later_count : length laters ≡ count
  pub next : (at : ℕ) (d : Option ℕ) → from ≤ at → at < count → IsLeastNumber (IsMember depth labels at) (slice_index_or nexts at d)
  pub later : (at : ℕ) (d : Option ℕ) → from ≤ at → at < count → IsLeastNumber (IsInLaterLane depth labels at) (slice_index_or laters at d)

-- the first of each group from this position on
abbrev pub AreHeads : ℕ → Labels → ℕ → BTreeMap (Vec ℕ) ℕ → Type 0
AreHeads depth labels from heads = (key : Vec ℕ) → IsLeastNumber (λ n. (from ≤ n) × HasKey depth labels key.items n) (get (λ x y. slice_cmp nat_cmp x.items y.items) heads key)

-- a label stands at these positions alone
abbrev pub HasLabelsBelow : ℕ → Labels → Type 0
HasLabelsBelow count labels = (position : ℕ) → 0 < length (labels position) → position < count

-- the groups of a depth
pub record IsLevel (depth : ℕ) (labels : Labels) (level : Level) : Type 0 where
  pub lanes : LanesAscend depth labels
  pub within : HasLabelsBelow (length level.next.items) labels
  pub chains : IsThreaded depth labels 0 (length level.next.items) level.next.items level.later.items

-- the labels have at most so many levels
abbrev pub HaveLevels : ℕ → List Segment → Type 0
HaveLevels most segments = All (λ s. length s.label ≤ most) segments

-- segments of one tree, and their groups at each depth below the root, the deepest first
pub record AreGroups (segments : List Segment) (levels : List Level) : Type 0 where
  pub tree : StandInOneTree segments
  pub deep : HaveLevels (length levels + 1) segments
  pub each : (k : ℕ) (d : Level) → k < length levels → (length (slice_index_or levels k d).next.items ≡ length segments) × IsLevel (length levels - k) (label_at segments) (slice_index_or levels k d)
