-- The segments of a log, told by going over its records from the first.
use Rattle.std.specs.Prelude.{◌≡◌, ◌≢◌, ◌↔◌, ◌⊎◌, ℕ, ◌+◌, ◌*◌, ◌<◌, ◌≤◌, Bool, true, false, List, [], ◌∷◌, ◌++◌, length, map, filter, Option, Some, None, slice_get, Contains}
use Rattle.std.specs.List.{AllZip}
use Rattle.std.specs.Option.{ForSome}
use Rattle.sw_base.specs.declared.path.Step.{Step}
use Rattle.log_format.specs.declared.record.Kind.{Kind}
use Rattle.log_format.specs.declared.record.Kind.TheVariants.{Read, Write, Lock, Unlock, Barrier, Region, Chunk, End, Update}
use Rattle.log_format.specs.declared.record.Record.{Record}
use Rattle.span_label.specs.Levels.{own_level}
use Rattle.race_model.specs.Trace.{TaskLog, Trace, Logs, Node, HasKind, regions_before}
use Rattle.race_model.specs.Race.{held_after}
use Rattle.race_model.specs.Label.{Triple, IsLabel}
use Rattle.race_model.specs.Segment.{Event, Segment as Interval, is_access_event, has_access, segment_of, task_segments}
use Rattle.stride_summary.specs.declared.key.Key.{Key}
use Rattle.stride_summary.specs.declared.summary.Summary.{Summary}
use Rattle.stride_summary.specs.Run.{HasPair}
use Rattle.stride_summary.specs.Summary.{IsSummed}
use Rattle.log_segment.specs.Intervals.{HasEvent, IsSegmentOf}
use Rattle.log_segment.specs.declared.segment.Segment.{Segment}
use Rattle.log_segment.specs.declared.walking.Walk.{Walk}

-- the logs have these of these tasks
abbrev pub HasLogs : Logs → Trace → Type 0
HasLogs logs trace = (task : TaskLog) → Contains trace task → logs task.path ≡ task.records

-- whether an access was added
abbrev pub has_summary : Option Summary → Bool
has_summary None = false
has_summary (Some summary) = true

-- whether an access was added after the last Region or Barrier, once a record of this kind is passed
abbrev pub open_after : Kind → Bool → Bool
open_after Read open_before = true
open_after Write open_before = true
open_after Barrier open_before = false
open_after Region open_before = false
open_after Lock open_before = open_before
open_after Unlock open_before = open_before
open_after Chunk open_before = open_before
open_after End open_before = open_before
open_after Update open_before = true

-- an access of the key at the address was added
abbrev pub HasSum : Option Summary → Key → ℕ → Type 0
HasSum None key address = ⊥
HasSum (Some summary) key address = IsSummed summary key address

-- the accesses are those of before and this one
pub record GainsAccess (old new : Option Summary) (key : Key) (address : ℕ) : Type 0 where
  pub opened : has_summary new ≡ true
  pub pairs : (other : Key) (place : ℕ) → HasSum new other place ↔ (HasSum old other place ⊎ ((key ≡ other) × (address ≡ place)))

-- the segments that were added are these of the model
pub record AddsSegments (logs : Logs) (intervals : List Interval) (old new : List Segment) : Type 0 where
  pub added : List Segment
  pub gains : new ≡ old ++ added
  pub are : AllZip (IsSegmentOf logs) intervals added

-- the event that comes after these records
abbrev pub event_after : List Record → Record → Event
event_after before r = record { number = length before + 1; event = r; held = held_after [] before }

-- what has begun after the last Region or Barrier, once this event is passed
abbrev pub begun_after : Kind → Event → List Event → List Event
begun_after Read e begun = begun ++ e ∷ []
begun_after Write e begun = begun ++ e ∷ []
begun_after Lock e begun = begun ++ e ∷ []
begun_after Unlock e begun = begun ++ e ∷ []
begun_after Barrier e begun = []
begun_after Region e begun = []
begun_after Chunk e begun = begun ++ e ∷ []
begun_after End e begun = begun ++ e ∷ []
begun_after Update e begun = begun ++ e ∷ []

-- what has begun, ended here
abbrev pub ended : List Step → List Event → List Interval
ended path begun = map (segment_of path) (filter has_access (begun ∷ []))

-- what an event of this kind ends
abbrev pub ended_by : List Step → Kind → List Event → List Interval
ended_by path Read begun = []
ended_by path Write begun = []
ended_by path Lock begun = []
ended_by path Unlock begun = []
ended_by path Barrier begun = ended path begun
ended_by path Region begun = ended path begun
ended_by path Chunk begun = []
ended_by path End begun = []
ended_by path Update begun = []

-- the events are numbered on from here
abbrev pub AreNumbered : ℕ → List Event → Type 0
AreNumbered n [] = Unit {0}
AreNumbered n (e ∷ es) = (e.number ≡ n) × AreNumbered (n + 1) es

-- the label of a fork is kept under its region's number
pub record KeepsFork (logs : Logs) (forks : List (List Triple)) (fork : Node) : Type 0 where
  pub label : List Triple
  pub kept : slice_get forks (regions_before logs fork) ≡ Some label
  pub is_label : IsLabel logs fork label

-- the labels of the first forks of a log
pub record AreForks (logs : Logs) (path : List Step) (n : ℕ) (forks : List (List Triple)) : Type 0 where
  pub count : length forks ≡ regions_before logs (record { path = path; index = n })
  pub each : (fork : Node) → fork.path ≡ path → fork.index < n → HasKind logs fork Region → KeepsFork logs forks fork

-- these events' accesses were added
pub record SumsUp (summary : Option Summary) (begun : List Event) : Type 0 where
  pub begins : has_summary summary ≡ has_access begun
  pub pairs : (key : Key) (address : ℕ) → HasSum summary key address ↔ HasEvent (filter is_access_event begun) key address

-- what is kept after these records of a log
pub record Follows (logs : Logs) (path : List Step) (before : List Record) (walk : Walk) (begun : List Event) : Type 0 where
  pub numbered : AreNumbered walk.first begun
  pub up : walk.first + length begun ≡ length before + 1
  pub sums : SumsUp walk.summary begun
  pub label : (x : Node) → x.path ≡ path → walk.first ≤ x.index + 1 → x.index ≤ length before → IsLabel logs x walk.label
  pub forks : AreForks logs path (length before) walk.forks.items

-- the log has these records first, and then this one
pub record IsNextOf (logs : Logs) (path : List Step) (before : List Record) (r : Record) : Type 0 where
  pub rest : List Record
  pub parts : logs path ≡ before ++ r ∷ rest

-- the log has these records first
pub record BeginsLog (logs : Logs) (path : List Step) (before : List Record) : Type 0 where
  pub rest : List Record
  pub parts : logs path ≡ before ++ rest

-- one segment more: what was added since the last Region or Barrier
pub record IsClosed (path : List Step) (last : ℕ) (walk : Walk) (summary : Summary) (old new : List Segment) : Type 0 where
  pub segment : Segment
  pub gains : new ≡ old ++ segment ∷ []
  pub path_is : segment.path ≡ path
  pub first : segment.first ≡ walk.first
  pub last_is : segment.last ≡ last
  pub label : segment.label ≡ walk.label
  pub pairs : (key : Key) (address : ℕ) → HasPair segment.runs.items key address ↔ IsSummed summary key address

-- a label's own level after so many records
abbrev pub IsOwnAfter : List Triple → ℕ → Type 0
IsOwnAfter label n = ForSome (own_level label) (λ own. (own.span ≤ 64) × (own.offset ≤ 64 * n) × (own.barrier ≤ n))

-- only a lane passes a barrier
abbrev pub OrdersInLane : Kind → List Step → Type 0
OrdersInLane kind path = kind ≡ Barrier → path ≢ []

-- what going over all these records of a log gives, where it begins with this label
pub record WalksLog (path : List Step) (label : List Triple) (records : List Record) (forks : List (List Triple)) (old new : List Segment) : Type 0 where
  pub segments : (logs : Logs) → logs path ≡ records → IsLabel logs (record { path = path; index = 0 }) label → AddsSegments logs (task_segments (record { path = path; records = records })) old new
  pub forked : (logs : Logs) → logs path ≡ records → IsLabel logs (record { path = path; index = 0 }) label → AreForks logs path (length records) forks
