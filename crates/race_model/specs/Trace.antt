-- What a run leaves: for each task its path and the records of its log.
use Rattle.std.specs.Prelude.{◌≡◌, ℕ, ◌<◌, Bool, true, false, ◌==◌, ◌&&◌, if◌then◌else◌, List, [], ◌∷◌, length, take, count_by, Option, Some, slice_get}
use lib.Pointwise.{pointwise}
use Rattle.sw_base.specs.declared.path.Step.{Step}
use Rattle.log_format.specs.declared.record.Record.{Record}
use Rattle.log_format.specs.declared.record.Kind.{Kind}
use Rattle.log_format.specs.declared.record.Kind.TheVariants.{Barrier, Region}

-- the records of one task
pub record TaskLog : Type 0 where
  pub path : List Step
  pub records : List Record

-- the tasks of a run, in the order of their rows
abbrev pub Trace : Type 0
Trace = List TaskLog

-- the records at each path; none where there is no task
abbrev pub Logs : Type 0
Logs = List Step → List Record

abbrev pub step_eq : Step → Step → Bool
step_eq a b = (a.region == b.region) && (a.lane == b.lane) && (a.span == b.span)

abbrev pub path_eq : List Step → List Step → Bool
path_eq = pointwise step_eq

abbrev pub logs_of : Trace → Logs
logs_of [] path = []
logs_of (task ∷ tasks) path = if path_eq task.path path then task.records else logs_of tasks path

-- one record of a run: whose log it is in, and its place there, from 0
pub record Node : Type 0 where
  pub path : List Step
  pub index : ℕ

abbrev pub record_at : Logs → Node → Option Record
record_at logs x = slice_get (logs x.path) x.index

abbrev pub IsThere : Logs → Node → Type 0
IsThere logs x = x.index < length (logs x.path)

-- the record at the node is of this kind
pub record HasKind (logs : Logs) (x : Node) (kind : Kind) : Type 0 where
  pub event : Record
  pub found : record_at logs x ≡ Some event
  pub kind_is : event.kind ≡ kind

abbrev pub is_region_kind : Kind → Bool
is_region_kind Region = true
is_region_kind _ = false

abbrev pub is_barrier_kind : Kind → Bool
is_barrier_kind Barrier = true
is_barrier_kind _ = false

abbrev pub region_count : List Record → ℕ
region_count records = count_by (λ r. is_region_kind r.kind) records

abbrev pub barrier_count : List Record → ℕ
barrier_count records = count_by (λ r. is_barrier_kind r.kind) records

-- how many regions the task had forked before this record
abbrev pub regions_before : Logs → Node → ℕ
regions_before logs x = region_count (take x.index (logs x.path))

-- how many barriers the task had passed before this record
abbrev pub barriers_before : Logs → Node → ℕ
barriers_before logs x = barrier_count (take x.index (logs x.path))
