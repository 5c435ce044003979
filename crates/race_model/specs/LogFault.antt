-- What makes a log bad. Each rule is told of the whole file, at one record, by the records before it.
use Rattle.std.specs.Prelude.{◌≡◌, ◌≢◌, ◌⊎◌, ◌↔◌, ℕ, ◌+◌, ◌<◌, ◌≤◌, List, [], ◌∷◌, ◌++◌, length, take, All, Contains, Option, Some, None, slice_get}
use Rattle.sw_base.specs.declared.path.Step.{Step}
use Rattle.sw_base.specs.Environment.{Files}
use Rattle.sw_base.specs.Names.{log_name}
use Rattle.log_format.specs.declared.format.Format.{Format}
use Rattle.log_format.specs.Format.{log_header}
use Rattle.log_format.specs.declared.record.Record.{Record}
use Rattle.log_format.specs.declared.record.Kind.TheVariants.{Lock, Unlock, Barrier, Region, End}
use Rattle.log_format.specs.declared.record.Why.{Why}
use Rattle.log_format.specs.declared.record.Why.TheVariants as why
use Rattle.log_format.specs.Spelling.{spelling, log_bytes}
use Rattle.log_format.specs.Table.{IsTabled, IsFirstFault}
use Rattle.race_model.specs.declared.why.RecordWhy.{RecordWhy}
use Rattle.race_model.specs.declared.why.RecordWhy.TheVariants as log
use Rattle.race_model.specs.Row.{Row}
use Rattle.race_model.specs.Race.{held_after}
use Rattle.race_model.specs.Segment.{segment_count}
use Rattle.race_model.specs.Trace.{region_count, barrier_count}

-- the most segments that a folder has
abbrev pub max_segments : ℕ
max_segments = 65536

-- the index lists a lane of this region of the task, with this span
pub record ListsRegion (rows : List Row) (path : List Step) (region span : ℕ) : Type 0 where
  pub lane : ℕ
  pub row : Row
  pub listed : Contains rows row
  pub child : row.path ≡ path ++ record { region = region; lane = lane; span = span } ∷ []

-- the spans of the task's regions, as the index lists them, by number
abbrev pub ListsSpans : List Row → List Step → List ℕ → Type 0
ListsSpans rows path spans = (region span : ℕ) → ListsRegion rows path region span ↔ (slice_get spans region ≡ Some span)

-- what the rules of one log stand on: the task's path, its number of records, the spans of its regions by the index, and,
-- for a lane from 1 on, the barriers of its team's lane 0
pub record LogTask : Type 0 where
  pub path : List Step
  pub records : ℕ
  pub spans : List ℕ
  pub due_barriers : Option ℕ

-- a record that comes after these records of its log breaks this rule
abbrev pub Breaks : LogTask → List Record → Record → RecordWhy → Type 0
Breaks task before r log.EndEarly = (r.kind ≡ End) × (length before + 1 < task.records)
Breaks task before r log.EndMissing = (r.kind ≢ End) × (length before + 1 ≡ task.records)
Breaks task before r log.LockTwice = (r.kind ≡ Lock) × Contains (held_after [] before) r.addr
Breaks task before r log.LocksDeep = (r.kind ≡ Lock) × (length (held_after [] before) ≡ 8)
Breaks task before r log.UnlockOther = (r.kind ≡ Unlock) × ((outer : List ℕ) → held_after [] before ≢ outer ++ r.addr ∷ [])
Breaks task before r log.RootBarrier = (r.kind ≡ Barrier) × (task.path ≡ [])
Breaks task before r log.BarrierLocked = (r.kind ≡ Barrier) × (held_after [] before ≢ [])
Breaks task before r log.RegionLocked = (r.kind ≡ Region) × (held_after [] before ≢ [])
Breaks task before r log.LockOpen = (r.kind ≡ End) × (held_after [] before ≢ [])
Breaks task before r log.RegionRows =
    ((r.kind ≡ Region) × (slice_get task.spans (region_count before) ≢ Some r.value))
    ⊎ ((r.kind ≡ End) × (region_count before < length task.spans))
Breaks task before r log.BarrierCount = (r.kind ≡ End) × ((barriers : ℕ) × (task.due_barriers ≡ Some barriers) × (barrier_count before ≢ barriers))
Breaks task before r _ = ⊥

-- the bytes are a log's header, these records of the table, and a rest
pub record IsRead (format : Format) (bytes : List ℕ) (records : List Record) (rest : List ℕ) : Type 0 where
  pub parts : bytes ≡ log_bytes (log_header format) records ++ rest
  pub tabled : All (IsTabled format) records

-- record n of a log of so many records comes after these records and begins the rest
pub record IsAt (format : Format) (bytes : List ℕ) (count n : ℕ) (before : List Record) (rest : List ℕ) : Type 0 where
  pub read : IsRead format bytes before rest
  pub number : n ≡ length before + 1
  pub counted : n ≤ count

-- the bytes of record n aren't all there
pub record IsCutRecord (format : Format) (bytes : List ℕ) (count n : ℕ) : Type 0 where
  pub before : List Record
  pub rest : List ℕ
  pub at : IsAt format bytes count n before rest
  pub short : length rest < 24

-- the bytes of record n are no record of the table, by this fault first
pub record IsUntabled (format : Format) (bytes : List ℕ) (count n : ℕ) (fault : Why) : Type 0 where
  pub before : List Record
  pub rest : List ℕ
  pub at : IsAt format bytes count n before rest
  pub whole : 24 ≤ length rest
  pub first : IsFirstFault format (take 24 rest) fault

-- record n is r, of the table, after these records
pub record IsRecord (format : Format) (bytes : List ℕ) (count n : ℕ) (before : List Record) (r : Record) : Type 0 where
  pub rest : List ℕ
  pub at : IsAt format bytes count n before (spelling r ++ rest)
  pub tabled : IsTabled format r

-- record n breaks a rule
pub record IsBroken (format : Format) (bytes : List ℕ) (task : LogTask) (n : ℕ) (rule : RecordWhy) : Type 0 where
  pub before : List Record
  pub r : Record
  pub at : IsRecord format bytes task.records n before r
  pub breaks : Breaks task before r rule

-- a byte follows the last record, and n is the number after it
pub record IsExtra (format : Format) (bytes : List ℕ) (count n : ℕ) : Type 0 where
  pub records : List Record
  pub rest : List ℕ
  pub read : IsRead format bytes records rest
  pub all : length records ≡ count
  pub number : n ≡ count + 1
  pub more : 0 < length rest

-- record n opens the first segment that is too many, after so many segments of earlier logs
pub record OpensTooMany (format : Format) (bytes : List ℕ) (count opened n : ℕ) : Type 0 where
  pub before : List Record
  pub r : Record
  pub at : IsRecord format bytes count n before r
  pub full : opened + segment_count before ≡ max_segments
  pub opens : segment_count (before ++ r ∷ []) ≡ segment_count before + 1

-- the log of these bytes is bad at record n by this rule
abbrev pub IsLogFault : Format → List ℕ → LogTask → ℕ → RecordWhy → Type 0
IsLogFault format bytes task n log.Header = (n ≡ 0) × ((rest : List ℕ) → bytes ≢ log_header format ++ rest)
IsLogFault format bytes task n log.Cut = IsCutRecord format bytes task.records n
IsLogFault format bytes task n log.Kind = IsUntabled format bytes task.records n why.Kind
IsLogFault format bytes task n log.Size = IsUntabled format bytes task.records n why.Size
IsLogFault format bytes task n log.LineZero = IsUntabled format bytes task.records n why.LineZero
IsLogFault format bytes task n log.Address = IsUntabled format bytes task.records n why.Address
IsLogFault format bytes task n log.Span = IsUntabled format bytes task.records n why.Span
IsLogFault format bytes task n log.Reserved = IsUntabled format bytes task.records n why.Reserved
IsLogFault format bytes task n log.Extra = IsExtra format bytes task.records n
IsLogFault format bytes task n rule = IsBroken format bytes task n rule

-- the task's log is whole: its header, these records of the table, and nothing else
pub record IsWholeLog (format : Format) (files : Files) (dir : List ℕ) (path : List Step) (records : List Record) : Type 0 where
  pub there : files (log_name dir path) ≡ Some (log_bytes (log_header format) records)
  pub tabled : All (IsTabled format) records

-- a lane from 1 on, whose team's lane 0 has a whole log with this many barriers
pub record HasTeamBarriers (format : Format) (files : Files) (dir : List ℕ) (path : List Step) (barriers : ℕ) : Type 0 where
  pub above : List Step
  pub step : Step
  pub path_is : path ≡ above ++ step ∷ []
  pub from_one : 0 < step.lane
  pub records : List Record
  pub log_of_first : IsWholeLog format files dir (above ++ record { region = step.region; lane = 0; span = step.span } ∷ []) records
  pub counted : barriers ≡ barrier_count records

-- the row of this number, from 1
pub record RowAt (rows : List Row) (row : ℕ) (task : Row) : Type 0 where
  pub index : ℕ
  pub number : row ≡ index + 1
  pub listed : slice_get rows index ≡ Some task

-- no log is held for the row
pub record IsMissingLog (files : Files) (dir : List ℕ) (rows : List Row) (row : ℕ) : Type 0 where
  pub task : Row
  pub listed : RowAt rows row task
  pub missing : files (log_name dir task.path) ≡ None

-- the log of the row is bad at record n by this rule
pub record IsBadRecord (format : Format) (files : Files) (dir : List ℕ) (rows : List Row) (row n : ℕ) (rule : RecordWhy) : Type 0 where
  pub task : Row
  pub listed : RowAt rows row task
  pub bytes : List ℕ
  pub there : files (log_name dir task.path) ≡ Some bytes
  pub spans : List ℕ
  pub has_spans : ListsSpans rows task.path spans
  pub due_barriers : Option ℕ
  pub has_team : (barriers : ℕ) → due_barriers ≡ Some barriers → HasTeamBarriers format files dir task.path barriers
  pub fault : IsLogFault format bytes (record { path = task.path; records = task.records; spans = spans; due_barriers = due_barriers }) n rule
