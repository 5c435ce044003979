-- A run as segments with labels.
use Rattle.std.specs.Prelude.{◌≡◌, ◌↔◌, ℕ, ◌+◌, ◌≤◌, List, Contains, Some}
use Rattle.log_format.specs.declared.record.Record.{Record}
use Rattle.sw_base.specs.declared.path.Step.{Step}
use Rattle.race_model.specs.Trace.{Logs, Node, record_at}
use Rattle.race_model.specs.Race.{IsAccess, held_at}
use Rattle.race_model.specs.Label.{IsLabel}
use Rattle.race_model.specs.Segment.{Event, Segment as Interval}
use Rattle.stride_summary.specs.declared.key.Key.{Key}
use Rattle.stride_summary.specs.Run.{HasPair}
use Rattle.log_segment.specs.Accesses.{key_at}
use Rattle.log_segment.specs.declared.segment.Segment.{Segment}

-- one of the events has the key and the address
pub record HasEvent (events : List Event) (key : Key) (address : ℕ) : Type 0 where
  pub event : Event
  pub listed : Contains events event
  pub keyed : key ≡ key_at event.event event.held
  pub addressed : address ≡ event.event.addr

-- the program's segment is the model's, its accesses as strided runs, with the label of each of its records
pub record IsSegmentOf (logs : Logs) (interval : Interval) (segment : Segment) : Type 0 where
  pub path : segment.path ≡ interval.path
  pub first : segment.first ≡ interval.first
  pub last : segment.last ≡ interval.last
  pub runs : (key : Key) (address : ℕ) → HasPair segment.runs.items key address ↔ HasEvent interval.accesses key address
  pub label : (x : Node) → x.path ≡ segment.path → segment.first ≤ x.index + 1 → x.index + 1 ≤ segment.last → IsLabel logs x segment.label

-- the record at the node is an access of the key, with the mutexes that are held there, at the address
pub record IsAccessAt (logs : Logs) (x : Node) (r : Record) (key : Key) (address : ℕ) : Type 0 where
  pub found : record_at logs x ≡ Some r
  pub access : IsAccess r
  pub keyed : key ≡ key_at r (held_at logs x)
  pub addressed : address ≡ r.addr

-- the key and the address are those of an access of the segment, and this is where it stands
pub record HasAccess (logs : Logs) (segment : Segment) (x : Node) (r : Record) (key : Key) (address : ℕ) : Type 0 where
  pub listed : HasPair segment.runs.items key address
  pub at_node : IsAccessAt logs x r key address
  pub in_log : x.path ≡ segment.path
  pub label : IsLabel logs x segment.label

-- the accesses of these tasks are those of the segments, each in a segment with its label
pub record AreSegments (logs : Logs) (IsOne : List Step → Type 0) (segments : List Segment) : Type 0 where
  pub each : (segment : Segment) → Contains segments segment → (key : Key) (address : ℕ) → HasPair segment.runs.items key address
      → IsOne segment.path × ((x : Node) × (r : Record) × HasAccess logs segment x r key address)
  pub all : (x : Node) (r : Record) → IsOne x.path → record_at logs x ≡ Some r → IsAccess r
      → (segment : Segment) × Contains segments segment × (key : Key) × (address : ℕ) × HasAccess logs segment x r key address
