-- The accesses of two lines, and barrier intervals in which a record may race with another.
use Rattle.std.specs.Prelude.{◌≡◌, ◌⊎◌, ℕ, ◌+◌, ◌≤◌, List, [], ◌∷◌, Contains, Option, Some, None, slice_get}
use Rattle.log_format.specs.declared.record.Record.{Record}
use Rattle.log_segment.specs.Accesses.{key_at}
use Rattle.log_segment.specs.Intervals.{HasAccess}
use Rattle.log_segment.specs.declared.segment.Segment.{Segment}
use Rattle.pair_compare.specs.Conflict.{IsConflictPair}
use Rattle.race_model.specs.Label.{IsConcurrent, Triple}
use Rattle.race_model.specs.Race.{IsAccess, held_at}
use Rattle.race_model.specs.Trace.{Trace, Logs, Node, logs_of, record_at}
use Rattle.stride_summary.specs.Run.{HasRunAddress, run_key}
use Rattle.stride_summary.specs.declared.run.Run.{Run}
use Rattle.sw_base.specs.declared.path.Step.{Step}
use Rattle.explain.specs.Least.{RacesOn}
use Rattle.explain.specs.Witness.{IsInLog}
use Rattle.explain.specs.declared.finding.Found.{Found}
use Rattle.explain.specs.declared.stretch.RecordRange.{RecordRange}

-- one of the two lines
abbrev pub IsOnLines : ℕ × ℕ → ℕ → Type 0
IsOnLines lines line = (lines.0 ≡ line) ⊎ (lines.1 ≡ line)

-- the record of this number is one of a stretch of the task's log
pub record IsRunWithin (own : List Step) (first last : ℕ) (path : List Step) (number : ℕ) : Type 0 where
  pub path_is : own ≡ path
  pub low : first ≤ number
  pub high : number ≤ last

-- the interval has the record at the node, and in its runs the access
pub record HasOwn (logs : Logs) (x : Node) (r : Record) (own : Segment) : Type 0 where
  pub within : IsRunWithin own.path own.first own.last x.path (x.index + 1)
  pub has : HasAccess logs own x r (key_at r (held_at logs x)) r.addr

-- each access of these lines is in one of the intervals
abbrev pub HoldAccesses : Trace → ℕ × ℕ → List Segment → Type 0
HoldAccesses trace lines segments = (place : ℕ) (x : Node) (r : Record) → IsInLog trace place x → record_at (logs_of trace) x ≡ Some r → IsAccess r → IsOnLines lines r.line
    → (own : Segment) × Contains segments own × HasOwn (logs_of trace) x r own

-- one of those that are kept is the same interval, and has this run of it
pub record HasPart (own : Segment) (run : Run) (kept : List Segment) : Type 0 where
  pub part : Segment
  pub listed : Contains kept part
  pub path_is : part.path ≡ own.path
  pub first_is : part.first ≡ own.first
  pub last_is : part.last ≡ own.last
  pub label_is : part.label ≡ own.label
  pub holds : Contains part.runs.items run

-- of the intervals the runs of these lines are kept
abbrev pub KeepsRuns : (ℕ → Type 0) → List Segment → List Segment → Type 0
KeepsRuns IsOne segments kept = (own : Segment) (run : Run) → Contains segments own → Contains own.runs.items run → IsOne run.line → HasPart own run kept

-- an access with the label of one interval conflicts with one of another in these lines
pub record MayMeet (own their : Segment) (one : Found) (lines : ℕ × ℕ) : Type 0 where
  pub concurrent : IsConcurrent own.label their.label
  pub conflict : (run : Run) → run_key run ≡ key_at one.event one.held → HasRunAddress run one.event.addr → IsConflictPair (run ∷ []) their.runs.items lines

-- one of the stretches has the records of this interval
pub record IsAmong (their : Segment) (stretches : List RecordRange) : Type 0 where
  pub stretch : RecordRange
  pub listed : Contains stretches stretch
  pub path_is : stretch.path ≡ their.path
  pub first_is : stretch.first ≡ their.first
  pub last_is : stretch.last ≡ their.last

abbrev pub region_in : Option Triple → ℕ
region_in None = 0
region_in (Some t) = t.offset

abbrev pub barrier_in : Option Triple → ℕ
barrier_in None = 0
barrier_in (Some t) = t.barrier

-- what the labels of concurrent intervals have in common: how many regions the root forked before, and how many barriers the team of the root's region has passed
abbrev pub root_team : List Triple → ℕ × ℕ
root_team label = (region_in (slice_get label 0), barrier_in (slice_get label 1))

-- each interval of the same team with an access that the record may race with is among the stretches, where one of the intervals has the record
abbrev pub FindsMet : List Segment → List Step → ℕ → Found → ℕ × ℕ → List RecordRange → Type 0
FindsMet segments path number one lines stretches = (own their : Segment) → Contains segments own → Contains segments their → root_team own.label ≡ root_team their.label
    → IsRunWithin own.path own.first own.last path number → MayMeet own their one lines → IsAmong their stretches

-- each record that races with x in these lines is in one of the stretches
abbrev pub HoldPartners : Trace → ℕ × ℕ → Node → List RecordRange → Type 0
HoldPartners trace lines x stretches = (place : ℕ) (y : Node) (byte : ℕ) → IsInLog trace place y → RacesOn (logs_of trace) lines x y byte
    → (s : RecordRange) × Contains stretches s × IsRunWithin s.path s.first s.last y.path (y.index + 1)
