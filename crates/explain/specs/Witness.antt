-- Two records of a folder that race, named by their rows and numbers.
use Rattle.std.specs.Prelude.{◌≡◌, ◌⊎◌, ℕ, ◌+◌, ◌≤◌, List, length, Option, Some, None, Result, OnOk, IfErr, slice_get}
use Rattle.mutex_set.specs.Held.{AreDisjoint}
use Rattle.sw_base.specs.declared.path.Step.{Step}
use Rattle.sw_base.specs.Environment.{Content, WhereTold}
use Rattle.sw_base.specs.Names.{IsUnder}
use Rattle.log_format.specs.declared.format.TheConstants.{FORMAT}
use Rattle.log_format.specs.declared.record.Record.{Record}
use Rattle.log_format.specs.declared.record.Kind.TheVariants.{Update}
use Rattle.race_model.specs.FirstBad.{HoldsLogs, HoldsTrace, rows_of}
use Rattle.race_model.specs.KeepsRules.{KeepsRules}
use Rattle.race_model.specs.Race.{IsAccess, IsChange, IsRace, HasByte, held_at}
use Rattle.race_model.specs.Row.{Row}
use Rattle.race_model.specs.Trace.{TaskLog, Trace, Logs, Node, IsThere, record_at, logs_of, barriers_before}
use Rattle.race_model.specs.WellFormed.{IsWellFormed}
use Rattle.log_walk.specs.Walk.{TellsFirstBad}
use Rattle.log_walk.specs.declared.fault.WalkFault.{WalkFault}
use Rattle.explain.specs.declared.finding.Found.{Found}

-- the node is in the log of the task of this place, from 0
pub record IsInLog (trace : Trace) (place : ℕ) (x : Node) : Type 0 where
  pub task : TaskLog
  pub listed : slice_get trace place ≡ Some task
  pub path_is : x.path ≡ task.path

-- the node is record `number` of row `row`, both from 1
pub record NamesRecord (trace : Trace) (row number : ℕ) (x : Node) : Type 0 where
  pub place : ℕ
  pub row_is : row ≡ place + 1
  pub stands : IsInLog trace place x
  pub number_is : number ≡ x.index + 1

-- the first byte that two accesses have in common
pub record IsLeastByte (r s : Record) (byte : ℕ) : Type 0 where
  pub left : HasByte r byte
  pub right : HasByte s byte
  pub least : (other : ℕ) → HasByte r other → HasByte s other → byte ≤ other

-- the two records that are named race, first at this byte
pub record IsConfirmed (trace : Trace) (first_row first second_row second byte : ℕ) : Type 0 where
  pub x : Node
  pub y : Node
  pub r : Record
  pub s : Record
  pub left : NamesRecord trace first_row first x
  pub right : NamesRecord trace second_row second y
  pub race : IsRace (logs_of trace) x y r s
  pub least : IsLeastByte r s byte

-- what was found tells the record at the node, the mutexes held there and the barriers passed before
pub record TellsRecord (logs : Logs) (x : Node) (found : Found) : Type 0 where
  pub event : record_at logs x ≡ Some found.event
  pub held : found.held ≡ held_at logs x
  pub barriers : found.barriers ≡ barriers_before logs x

-- the record of this number, from 1, in the log of the task of this place was found, or there is none
abbrev pub FindsNamed : Trace → ℕ → ℕ → Option Found → Type 0
FindsNamed trace place number None = (x : Node) → IsInLog trace place x → number ≡ x.index + 1 → IsThere (logs_of trace) x → ⊥
FindsNamed trace place number (Some found) = (x : Node) × IsInLog trace place x × (number ≡ x.index + 1) × TellsRecord (logs_of trace) x found

-- the folder holds a run of these rows that keeps every rule
pub record HoldsListedRun (content : Content) (dir : List ℕ) (rows : List Row) (trace : Trace) : Type 0 where
  pub keeps : KeepsRules FORMAT trace
  pub logs : HoldsLogs FORMAT content.held dir trace
  pub rows_are : rows_of trace ≡ rows

-- where it was walked to the end, the folder holds a run and is bad nowhere; where it was refused, that tells its first bad place
pub record WalksFolder {T : Type 0} (told : Option Content) (dir : List ℕ) (result : Result T WalkFault) : Type 0 where
  pub holds : OnOk result (WhereTold told (λ c. (trace : Trace) × HoldsTrace FORMAT c.held dir trace))
  pub well_formed : OnOk result (WhereTold told (λ c. IsWellFormed FORMAT c.held dir))
  pub refused : IfErr result (λ e. WhereTold told (λ c. TellsFirstBad FORMAT c.held dir e))

-- two accesses that race if nothing orders them, and their first common byte
pub record ConflictAt (one other : Found) (byte : ℕ) : Type 0 where
  pub one_access : IsAccess one.event
  pub other_access : IsAccess other.event
  pub changes : IsChange one.event ⊎ IsChange other.event
  pub not_both_updates : one.event.kind ≡ Update → other.event.kind ≡ Update → ⊥
  pub no_mutex : AreDisjoint one.held other.held
  pub least : IsLeastByte one.event other.event byte

-- the path is that of a task above, one step below this level
pub record IsLaneAbove (path : List Step) (level : ℕ) (above : List Step) : Type 0 where
  pub deep : length above ≡ level + 1
  pub under : IsUnder path above
