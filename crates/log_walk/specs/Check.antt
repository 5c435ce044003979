-- What the check of one log says of its records.
use Rattle.std.specs.Prelude.{◌≡◌, ◌⊎◌, ℕ, ◌+◌, ◌<◌, ◌≤◌, Bool, false, cond, List, [], ◌∷◌, length, take, slice_get, All, Option, Some}
use Rattle.log_format.specs.declared.format.Format.{Format}
use Rattle.log_format.specs.Format.{log_header}
use Rattle.log_format.specs.declared.record.Kind.{Kind}
use Rattle.log_format.specs.declared.record.Kind.TheVariants.{Read, Write, Lock, Unlock, Barrier, Region, Chunk, End, Update}
use Rattle.log_format.specs.declared.record.Record.{Record}
use Rattle.log_format.specs.declared.record.Why.{Why}
use Rattle.log_format.specs.declared.record.Why.TheVariants as why
use Rattle.race_model.specs.declared.why.RecordWhy.{RecordWhy}
use Rattle.race_model.specs.declared.why.RecordWhy.TheVariants as log
use Rattle.log_format.specs.Spelling.{log_bytes}
use Rattle.log_format.specs.Table.{IsTabled, Spells, IsFirstFault}
use Rattle.sw_base.specs.declared.trouble.Trouble.{Trouble}
use Rattle.sw_base.specs.declared.trouble.Trouble.TheVariants as trouble
use Rattle.sw_base.specs.Environment.{WhereTold}
use Rattle.race_model.specs.Label.{Triple}
use Rattle.race_model.specs.Trace.{barrier_count}
use Rattle.log_segment.specs.Walking.{open_after, WalksLog}
use Rattle.log_segment.specs.declared.segment.Segment.{Segment}
use Rattle.race_model.specs.LogFault.{LogTask, Breaks, IsLogFault, OpensTooMany, max_segments}
use Rattle.race_model.specs.Segment.{segment_count}
use Rattle.log_walk.specs.Rules.{BreaksNone, BreaksFirst, log_task_of}
use Rattle.log_walk.specs.declared.check.Checked.{Checked}
use Rattle.log_walk.specs.declared.task.Task.{Task}
use Rattle.log_walk.specs.declared.check.LogFault.{LogFault}
use Rattle.log_walk.specs.declared.check.LogFault.TheVariants as fault
use Rattle.race_model.specs.BadPlace.{record_rank, last_rank}

-- no record breaks a rule after those before it
pub record KeepsLogRules (task : LogTask) (records : List Record) : Type 0 where
  pub each : (k : ℕ) (r : Record) → slice_get records k ≡ Some r → (rule : RecordWhy) → Breaks task (take k records) r rule → ⊥

-- what a failed call of the environment is answered with
abbrev pub log_fault_of : Trouble → LogFault
log_fault_of trouble.Memory = fault.Memory
log_fault_of trouble.Failed = fault.ReadFault

-- the rule of a log that a fault of a record's bytes breaks
abbrev pub of_why : Why → RecordWhy
of_why why.Kind = log.Kind
of_why why.Size = log.Size
of_why why.LineZero = log.LineZero
of_why why.Address = log.Address
of_why why.Span = log.Span
of_why why.Reserved = log.Reserved

-- how many segments a record of this kind opens
abbrev pub opens_by : Kind → Bool → ℕ
opens_by Read open_before = cond open_before 0 1
opens_by Write open_before = cond open_before 0 1
opens_by Lock open_before = 0
opens_by Unlock open_before = 0
opens_by Barrier open_before = 0
opens_by Region open_before = 0
opens_by Chunk open_before = 0
opens_by End open_before = 0
opens_by Update open_before = cond open_before 0 1

-- whether a segment with an access is open after these records
abbrev pub is_open_after : Bool → List Record → Bool
is_open_after open_before [] = open_before
is_open_after open_before (r ∷ records) = is_open_after (open_after r.kind open_before) records

-- nothing is bad in the log before record n, nor at it by a rule of a lower rank
pub record NothingBefore (format : Format) (bytes : List ℕ) (task : LogTask) (opened n rank : ℕ) : Type 0 where
  pub earlier : (m : ℕ) (rule : RecordWhy) → m < n → IsLogFault format bytes task m rule → ⊥
  pub here : (rule : RecordWhy) → record_rank rule < rank → IsLogFault format bytes task n rule → ⊥
  pub segments : (m : ℕ) → m < n → OpensTooMany format bytes task.records opened m → ⊥

-- a log is refused at this place
abbrev pub IsLogRefused : Format → List ℕ → LogTask → ℕ → LogFault → Type 0
IsLogRefused format bytes task opened (fault.Bad n rule) = IsLogFault format bytes task n rule × NothingBefore format bytes task opened n (record_rank rule)
IsLogRefused format bytes task opened (fault.TooMany n) = OpensTooMany format bytes task.records opened n × NothingBefore format bytes task opened n last_rank
IsLogRefused format bytes task opened fault.ReadFault = Unit {0}
IsLogRefused format bytes task opened fault.Memory = Unit {0}

-- the same, where the bytes are told
abbrev pub RefusesLog : Format → Option (List ℕ) → LogTask → ℕ → LogFault → Type 0
RefusesLog format told task opened e = WhereTold told (λ bytes. IsLogRefused format bytes task opened e)

-- a log is good: these are its records, and with it and the earlier logs there are so many segments
pub record IsGoodLog (format : Format) (bytes : List ℕ) (task : LogTask) (opened : ℕ) (records : List Record) (segments : ℕ) : Type 0 where
  pub whole : bytes ≡ log_bytes (log_header format) records
  pub tabled : All (IsTabled format) records
  pub counted : length records ≡ task.records
  pub keeps : KeepsLogRules task records
  pub sum : segments ≡ opened + segment_count records
  pub limit : segments ≤ max_segments

-- the log with these bytes, where they are told, is good, and these are its segments
pub record ChecksLog (format : Format) (bytes : Option (List ℕ)) (task : Task) (opened : ℕ) (label : List Triple) (checked : Checked) (old new : List Segment) : Type 0 where
  pub records : List Record
  pub good : IsGoodLog format (log_bytes (log_header format) records) (log_task_of task) opened records checked.segments
  pub barriers : checked.barriers ≡ barrier_count records
  pub whole : WhereTold bytes (λ file. file ≡ log_bytes (log_header format) records)
  pub walks : WalksLog task.path label records checked.forks.items old new

-- the bytes of the next record are a fault of the table
pub record IsNoRecord (format : Format) (bytes : List ℕ) (rule : RecordWhy) : Type 0 where
  pub fault : Why
  pub rule_is : rule ≡ of_why fault
  pub first : IsFirstFault format bytes fault

-- or a record that breaks a rule
pub record IsBadNext (format : Format) (bytes : List ℕ) (task : LogTask) (before : List Record) (rule : RecordWhy) : Type 0 where
  pub r : Record
  pub spells : Spells format bytes r
  pub breaks : BreaksFirst task before r rule

-- or one that opens a segment too many
pub record IsOverNext (format : Format) (bytes : List ℕ) (task : LogTask) (opened : ℕ) (before : List Record) : Type 0 where
  pub r : Record
  pub spells : Spells format bytes r
  pub breaks : BreaksNone task before r
  pub full : opened + segment_count before ≡ max_segments
  pub opens : opens_by r.kind (is_open_after false before) ≡ 1

-- why the next record is refused
abbrev pub IsNextRefused : Format → List ℕ → LogTask → ℕ → List Record → ℕ → LogFault → Type 0
IsNextRefused format bytes task opened before number (fault.Bad n rule) = (n ≡ number) × (IsNoRecord format bytes rule ⊎ IsBadNext format bytes task before rule)
IsNextRefused format bytes task opened before number (fault.TooMany n) = (n ≡ number) × IsOverNext format bytes task opened before
IsNextRefused format bytes task opened before number fault.ReadFault = ⊥
IsNextRefused format bytes task opened before number fault.Memory = ⊥

-- what the next record is where it isn't refused
pub record IsGoodNext (format : Format) (bytes : List ℕ) (task : LogTask) (before : List Record) (r : Record) : Type 0 where
  pub spells : Spells format bytes r
  pub breaks : BreaksNone task before r
