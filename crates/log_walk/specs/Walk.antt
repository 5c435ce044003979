-- What a walk through a folder answers.
use Rattle.std.specs.Prelude.{◌≡◌, ℕ, ◌+◌, ◌≤◌, List, length, Option, None}
use Rattle.sw_base.specs.declared.path.Step.{Step}
use Rattle.sw_base.specs.declared.trouble.Trouble.{Trouble}
use Rattle.sw_base.specs.declared.trouble.Trouble.TheVariants as trouble
use Rattle.sw_base.specs.Environment.{Files, Content, WhereTold}
use Rattle.sw_base.specs.Names.{log_name}
use Rattle.log_format.specs.declared.format.Format.{Format}
use Rattle.log_format.specs.declared.record.Record.{Record}
use Rattle.log_index.specs.declared.row.IndexAnswer.{IndexAnswer}
use Rattle.log_index.specs.declared.row.IndexAnswer.TheVariants as answer
use Rattle.race_model.specs.Row.{Row}
use Rattle.race_model.specs.IndexFault.{IsIndex}
use Rattle.race_model.specs.Trace.{Trace}
use Rattle.race_model.specs.LogFault.{RowAt, LogTask, ListsSpans, max_segments}
use Rattle.race_model.specs.Segment.{segment_count}
use Rattle.race_model.specs.BadPlace.{BadPlace, no_index, bad_row, missing_log, bad_record, too_many_segments}
use Rattle.race_model.specs.FirstBad.{HoldsLogs, IsFirstBad, segments_in}
use Rattle.log_walk.specs.GoodTrace.{IsGoodTask, IsGoodTrace, AreTeamBarriers}
use Rattle.log_walk.specs.declared.check.LogFault.{LogFault}
use Rattle.log_walk.specs.declared.check.LogFault.TheVariants as log_fault
use Rattle.log_walk.specs.declared.fault.WalkFault.{WalkFault}
use Rattle.log_walk.specs.declared.fault.WalkFault.TheVariants as fault

abbrev pub walk_fault : Trouble → WalkFault
walk_fault trouble.Memory = fault.Memory
walk_fault trouble.Failed = fault.ReadFault

abbrev pub of_index : IndexAnswer → WalkFault
of_index answer.NoIndex = fault.NoIndex
of_index (answer.Bad row why) = fault.BadIndex row why
of_index answer.ReadFault = fault.ReadFault
of_index answer.Memory = fault.Memory

abbrev pub of_log : List Step → LogFault → WalkFault
of_log path (log_fault.Bad number why) = fault.BadRecord path number why
of_log path (log_fault.TooMany number) = fault.TooManySegments path number
of_log path log_fault.ReadFault = fault.ReadFault
of_log path log_fault.Memory = fault.Memory

-- the row of this number, from 1, is that of the task
pub record IsLogRow (format : Format) (files : Files) (dir : List ℕ) (path : List Step) (row : ℕ) : Type 0 where
  pub rows : List Row
  pub index : IsIndex format files dir rows
  pub task : Row
  pub listed : RowAt rows row task
  pub path_is : task.path ≡ path

-- the folder's first bad place is in the log of this task
pub record IsFirstIn (format : Format) (files : Files) (dir : List ℕ) (path : List Step) (place : ℕ → BadPlace) : Type 0 where
  pub row : ℕ
  pub is_row : IsLogRow format files dir path row
  pub first : IsFirstBad format files dir (place row)

-- a fault tells the folder's first bad place, where it tells a place
abbrev pub TellsFirstBad : Format → Files → List ℕ → WalkFault → Type 0
TellsFirstBad format files dir fault.NoIndex = IsFirstBad format files dir no_index
TellsFirstBad format files dir (fault.BadIndex row why) = IsFirstBad format files dir (bad_row row why)
TellsFirstBad format files dir (fault.MissingLog path) = IsFirstIn format files dir path (λ row. missing_log row)
TellsFirstBad format files dir (fault.BadRecord path number why) = IsFirstIn format files dir path (λ row. bad_record row number why)
TellsFirstBad format files dir (fault.TooManySegments path number) = IsFirstIn format files dir path (λ row. too_many_segments row number)
TellsFirstBad format files dir fault.ReadFault = Unit {0}
TellsFirstBad format files dir fault.Memory = Unit {0}

-- what is known where the index and the first logs were read, and are good
pub record Walked (format : Format) (files : Files) (dir : List ℕ) (rows : List Row) (trace : Trace) : Type 0 where
  pub index : IsIndex format files dir rows
  pub logs : HoldsLogs format files dir trace
  pub good : IsGoodTrace format rows trace

-- a refusal that tells a place tells one in the log of such a task
abbrev pub RefusesLogOf : (List Step → Type 0) → WalkFault → Type 0
RefusesLogOf IsOne fault.NoIndex = ⊥
RefusesLogOf IsOne (fault.BadIndex row why) = ⊥
RefusesLogOf IsOne (fault.MissingLog path) = IsOne path
RefusesLogOf IsOne (fault.BadRecord path number why) = IsOne path
RefusesLogOf IsOne (fault.TooManySegments path number) = IsOne path
RefusesLogOf IsOne fault.ReadFault = Unit {0}
RefusesLogOf IsOne fault.Memory = Unit {0}

-- why the bytes of a task's log weren't read
abbrev pub IsUnread : Option Content → List ℕ → List Step → WalkFault → Type 0
IsUnread told dir path (fault.MissingLog missing) = (missing ≡ path) × WhereTold told (λ c. c.held (log_name dir path) ≡ None)
IsUnread told dir path fault.ReadFault = Unit {0}
IsUnread told dir path fault.Memory = Unit {0}
IsUnread told dir path _ = ⊥

-- what the rules of a row's log stand on, beside the index and the tasks before it
pub record IsTaskOf (rows : List Row) (earlier : Trace) (row : Row) (task : LogTask) : Type 0 where
  pub path : task.path ≡ row.path
  pub records : task.records ≡ row.records
  pub spans : ListsSpans rows row.path task.spans
  pub team : AreTeamBarriers earlier row.path task.due_barriers

-- the log of the row after a trace is good: these are its records, and then there are so many segments
pub record IsNextTask (format : Format) (rows : List Row) (earlier : Trace) (row : Row) (records : List Record) (segments : ℕ) : Type 0 where
  pub good : IsGoodTask format rows earlier (record { path = row.path; records = records })
  pub counted : length records ≡ row.records
  pub sum : segments ≡ segments_in earlier + segment_count records
  pub limit : segments ≤ max_segments

-- a refusal of the next row's log, after the logs of a trace
abbrev pub RefusesNext : Format → Option Content → List ℕ → List Row → Trace → Row → WalkFault → Type 0
RefusesNext format told dir rows trace row e = RefusesLogOf (λ path. path ≡ row.path) e × WhereTold told (λ c. Walked format c.held dir rows trace → TellsFirstBad format c.held dir e)
