-- What is known of a log that is read before its turn.
use Rattle.std.specs.Prelude.{◌≡◌, ℕ, ◌+◌, ◌≤◌, List, [], Option, Some, None, Ok, Err, slice_get}
use Rattle.sw_base.specs.Environment.{Content}
use Rattle.sw_base.specs.Names.{log_name}
use Rattle.log_format.specs.Limit.{record_limit}
use Rattle.log_format.specs.declared.format.Format.{Format}
use Rattle.race_model.specs.Label.{IsLabel}
use Rattle.race_model.specs.LogFault.{ListsSpans, max_segments}
use Rattle.race_model.specs.Row.{Row}
use Rattle.race_model.specs.Trace.{Trace, Logs}
use Rattle.log_segment.specs.Walking.{HasLogs, IsOwnAfter}
use Rattle.log_walk.specs.Check.{ChecksLog}
use Rattle.log_walk.specs.GoodTrace.{AreTeamBarriers}
use Rattle.log_walk.specs.Unread.{CountsFaults, OpensFile}
use Rattle.log_walk.specs.declared.ahead.Ahead.{Ahead}
use Rattle.log_walk.specs.declared.ahead.Job.{Job}
use Rattle.log_walk.specs.declared.ahead.Source.{Source}
use Rattle.log_walk.specs.declared.check.Checked.{Checked}
use Rattle.log_walk.specs.declared.check.LogFault.TheVariants.{ReadFault}

-- what the log of a row is read by: the row's task, as if its team owed no barriers, and some label and number of segments
pub record IsSource (rows : List Row) (source : Source) : Type 0 where
  pub row : Row
  pub listed : slice_get rows source.place ≡ Some row
  pub path : source.task.path ≡ row.path
  pub records : source.task.records ≡ row.records
  pub limit : source.task.records ≤ record_limit
  pub spans : ListsSpans rows row.path source.task.spans.items
  pub free : source.task.due_barriers ≡ None
  pub own : IsOwnAfter source.label 1
  pub room : source.opened ≤ max_segments

-- the log is good by what its records and its row alone tell
pub record IsAhead (format : Format) (told : Option Content) (dir : List ℕ) (rows : List Row) (read : Ahead) : Type 0 where
  pub source : IsSource rows read.source
  pub bytes : Option (List ℕ)
  pub opens : OpensFile told (log_name dir read.source.task.path) bytes
  pub checks : ChecksLog format bytes read.source.task read.source.opened read.source.label read.checked [] read.found.items

-- the log was opened, and its check answered this, if it was gone over
pub record IsJob {T : Type 0} (rest : T → Option (List ℕ)) (faults : T → ℕ) (format : Format) (told : Option Content) (dir : List ℕ) (rows : List Row) (job : Job T) : Type 0 where
  pub source : IsSource rows job.source
  pub bytes : Option (List ℕ)
  pub opens : OpensFile told (log_name dir job.source.task.path) bytes
  pub fresh : job.answer ≡ None → (rest job.file ≡ bytes) × (job.found.items ≡ [])
  pub good : (checked : Checked) → job.answer ≡ Some (Ok checked) → ChecksLog format bytes job.source.task job.source.opened job.source.label checked [] job.found.items
  pub counts : CountsFaults 0 (faults job.file) (job.answer ≡ Some (Err ReadFault))

-- the log stands as it was read: it has this label, as many barriers as its team, and not too many segments
pub record StandsAsRead (trace : Trace) (row : Row) (opened : ℕ) (read : Ahead) : Type 0 where
  pub label : (logs : Logs) → HasLogs logs trace → IsLabel logs (record { path = row.path; index = 0 }) read.source.label
  pub due : Option ℕ
  pub team : AreTeamBarriers trace row.path due
  pub counted : (barriers : ℕ) → due ≡ Some barriers → barriers ≡ read.checked.barriers
  pub limit : opened + read.checked.segments ≤ max_segments + read.source.opened
