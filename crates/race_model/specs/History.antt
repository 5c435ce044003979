-- Sequentially consistent histories of a run (Lamport 1979): the memory accesses and mutex steps of all tasks in one order,
-- told of the logs alone.
use Rattle.std.specs.Prelude.{◌≡◌, ◌⊎◌, ℕ, ◌+◌, ◌<◌, ◌==◌, if◌then◌else◌, List, [], ◌∷◌, ◌++◌, length, map, filter, reverse, slice_index, Option, Some, None}
use Rattle.sw_base.specs.declared.path.Step.{Step}
use Rattle.log_format.specs.declared.record.Record.{Record}
use Rattle.log_format.specs.declared.record.Kind.{Kind}
use Rattle.log_format.specs.declared.record.Kind.TheVariants.{Read, Write, Lock, Unlock, Update}
use Rattle.log_format.specs.Fitting.{fit}
use Rattle.race_model.specs.Trace.{Logs, Node, path_eq}
use Rattle.race_model.specs.Order.{HappensBefore}
use Rattle.race_model.specs.Race.{held_after}

-- a record of a history, and its place in its log
pub record Entry : Type 0 where
  pub node : Node
  pub event : Record

-- a history has the accesses and mutex steps, and nothing else
abbrev pub entry_of : Kind → Entry → List Entry
entry_of Read e = e ∷ []
entry_of Write e = e ∷ []
entry_of Update e = e ∷ []
entry_of Lock e = e ∷ []
entry_of Unlock e = e ∷ []
entry_of _ e = []

-- what a history has of a log, from the log's record i on
abbrev pub entries_from : List Step → ℕ → List Record → List Entry
entries_from path i [] = []
entries_from path i (r ∷ records) = entry_of r.kind (record { node = record { path = path; index = i }; event = r }) ++ entries_from path (i + 1) records

-- what a history has of one task
abbrev pub task_entries : List Step → List Entry → List Entry
task_entries path history = filter (λ (e : Entry). path_eq e.node.path path) history

-- the value at the address after a record of this kind: what a write stores, and of an update the sum, cut to its bytes
abbrev pub stored_after : Kind → Record → ℕ → ℕ → ℕ
stored_after Write r addr value = if r.addr == addr then r.value else value
stored_after Update r addr value = if r.addr == addr then fit (value + r.value) r.size else value
stored_after _ r addr value = value

abbrev pub stored_from : ℕ → List Entry → ℕ → ℕ
stored_from addr [] value = value
stored_from addr (e ∷ history) value = stored_from addr history (stored_after e.event.kind e.event addr value)

-- the value that the writes and updates leave at the address, which has 0 before them
abbrev pub stored_value : ℕ → List Entry → ℕ
stored_value addr history = stored_from addr history 0

-- who has the mutex after a record of this kind in this task's log
abbrev pub owner_after : Kind → Record → List Step → ℕ → Option (List Step) → Option (List Step)
owner_after Lock r path mutex owner = if r.addr == mutex then Some path else owner
owner_after Unlock r path mutex owner = if r.addr == mutex then None else owner
owner_after _ r path mutex owner = owner

abbrev pub owner_from : ℕ → List Entry → Option (List Step) → Option (List Step)
owner_from mutex [] owner = owner
owner_from mutex (e ∷ history) owner = owner_from mutex history (owner_after e.event.kind e.event e.node.path mutex owner)

-- the task that has the mutex, if any has
abbrev pub mutex_owner : ℕ → List Entry → Option (List Step)
mutex_owner mutex history = owner_from mutex history None

-- a record fits those before it: a read has the value that is there, a mutex is locked while no task has it and unlocked by the task
-- that has it
abbrev pub FitsKind : Kind → List Entry → Record → List Step → Type 0
FitsKind Read before r path = r.value ≡ stored_value r.addr before
FitsKind Lock before r path = mutex_owner r.addr before ≡ None
FitsKind Unlock before r path = mutex_owner r.addr before ≡ Some path
FitsKind _ before r path = Unit {0}

abbrev pub IsLegalAfter : List Entry → List Entry → Type 0
IsLegalAfter before [] = Unit {0}
IsLegalAfter before (e ∷ history) = FitsKind e.event.kind before e.event e.node.path × IsLegalAfter (before ++ e ∷ []) history

-- each record fits those before it
abbrev pub IsLegalHistory : List Entry → Type 0
IsLegalHistory history = IsLegalAfter [] history

-- the unlocks that no log has: of what a task holds when its run stops, the innermost first
abbrev pub release : ℕ → Record
release mutex = record { kind = Unlock; size = 0; site = 0; line = 0; addr = mutex; value = 0 }

abbrev pub released : List Record → List Record
released records = records ++ map release (reverse (held_after [] records))

-- each task did what its log says, and perhaps released then what it held
abbrev pub IsReleased : Logs → Logs → Type 0
IsReleased logs full = (path : List Step) → (full path ≡ logs path) ⊎ (full path ≡ released (logs path))

-- all that the tasks did, each once and each task's in the order of its log
pub record IsHistory (logs : Logs) (history : List Entry) : Type 0 where
  pub full : Logs
  pub is_released : IsReleased logs full
  pub each : (path : List Step) → task_entries path history ≡ entries_from path 0 (full path)

-- no record happens before one that stands earlier
abbrev pub RespectsOrder : Logs → List Entry → Type 0
RespectsOrder logs history = (before mid after : List Entry) (x y : Entry) → history ≡ before ++ x ∷ (mid ++ y ∷ after) → HappensBefore logs y.node x.node → ⊥

-- the logs have one legal history that respects happens-before, and these words are its last values at their addresses
pub record HasLegalHistory (logs : Logs) (address : ℕ → ℕ) (words : List ℕ) : Type 0 where
  pub history : List Entry
  pub is_history : IsHistory logs history
  pub legal : IsLegalHistory history
  pub order : RespectsOrder logs history
  pub memory : (word : ℕ) → word < length words → slice_index words word ≡ stored_value (address word) history
