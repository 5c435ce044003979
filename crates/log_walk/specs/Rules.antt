-- Which rule a record breaks first.
use Rattle.std.specs.Prelude.{◌≡◌, ◌≢◌, ℕ, ◌<◌, ◌≤◌, List, [], ◌∷◌, ◌++◌, length, filter, not, ◌==◌, Contains, Some, slice_get}
use Rattle.log_format.specs.declared.record.Kind.{Kind}
use Rattle.log_format.specs.declared.record.Kind.TheVariants.{End}
use Rattle.log_format.specs.declared.record.Record.{Record}
use Rattle.sw_base.specs.declared.path.Step.{Step}
use Rattle.mutex_set.specs.Held.{IsInnermost}
use Rattle.race_model.specs.declared.why.RecordWhy.{RecordWhy}
use Rattle.race_model.specs.declared.why.RecordWhy.TheVariants as log
use Rattle.race_model.specs.LogFault.{LogTask, Breaks}
use Rattle.race_model.specs.BadPlace.{record_rank}
use Rattle.log_walk.specs.declared.task.Task.{Task}

-- a task, as the rules see it
abbrev pub log_task_of : Task → LogTask
log_task_of task = record { path = task.path; records = task.records; spans = task.spans.items; due_barriers = task.due_barriers }

-- the record breaks none
abbrev pub BreaksNone : LogTask → List Record → Record → Type 0
BreaksNone task before r = (rule : RecordWhy) → Breaks task before r rule → ⊥

-- the record breaks this one, and none of a lower rank
pub record BreaksFirst (task : LogTask) (before : List Record) (r : Record) (rule : RecordWhy) : Type 0 where
  pub breaks : Breaks task before r rule
  pub least : (other : RecordWhy) → record_rank other < record_rank rule → Breaks task before r other → ⊥

-- record n of so many is an End at the last number alone
pub record InPlace (kind : Kind) (n count : ℕ) : Type 0 where
  pub early : kind ≡ End → n < count → ⊥
  pub missing : (kind ≢ End) → n ≡ count → ⊥

-- or it isn't
abbrev pub OutOfPlace : Kind → ℕ → ℕ → RecordWhy → Type 0
OutOfPlace kind n count log.EndEarly = (kind ≡ End) × (n < count)
OutOfPlace kind n count log.EndMissing = (kind ≢ End) × (n ≡ count)
OutOfPlace kind n count _ = ⊥

-- a mutex was taken
pub record Locks (held : List ℕ) (mutex : ℕ) (now : List ℕ) : Type 0 where
  pub free : Contains held mutex → ⊥
  pub few : length held ≢ 8
  pub taken : now ≡ held ++ mutex ∷ []

-- or can't be
abbrev pub CantLock : List ℕ → ℕ → RecordWhy → Type 0
CantLock held mutex log.LockTwice = Contains held mutex
CantLock held mutex log.LocksDeep = (Contains held mutex → ⊥) × (length held ≡ 8)
CantLock held mutex _ = ⊥

-- a mutex was given back
pub record Unlocks (held : List ℕ) (mutex : ℕ) (now : List ℕ) : Type 0 where
  pub innermost : IsInnermost held mutex
  pub rest : now ≡ filter (λ other. not (other == mutex)) held

abbrev pub CantUnlock : List ℕ → ℕ → RecordWhy → Type 0
CantUnlock held mutex log.UnlockOther = IsInnermost held mutex → ⊥
CantUnlock held mutex _ = ⊥

-- a task may pass a barrier
pub record MayPass (held : List ℕ) (path : List Step) : Type 0 where
  pub lane : path ≢ []
  pub free : held ≡ []

abbrev pub CantPass : List ℕ → List Step → RecordWhy → Type 0
CantPass held path log.RootBarrier = path ≡ []
CantPass held path log.BarrierLocked = (path ≢ []) × (held ≢ [])
CantPass held path _ = ⊥

-- a task may fork its region of this number and span
pub record MayFork (held spans : List ℕ) (region span : ℕ) : Type 0 where
  pub free : held ≡ []
  pub listed : slice_get spans region ≡ Some span

abbrev pub CantFork : List ℕ → List ℕ → ℕ → ℕ → RecordWhy → Type 0
CantFork held spans region span log.RegionLocked = held ≢ []
CantFork held spans region span log.RegionRows = (held ≡ []) × (slice_get spans region ≢ Some span)
CantFork held spans region span _ = ⊥

-- a task may end after so many regions and barriers
pub record MayEnd (held : List ℕ) (task : LogTask) (regions barriers : ℕ) : Type 0 where
  pub free : held ≡ []
  pub all : length task.spans ≤ regions
  pub together : (others : ℕ) → task.due_barriers ≡ Some others → barriers ≡ others

abbrev pub CantEnd : List ℕ → LogTask → ℕ → ℕ → RecordWhy → Type 0
CantEnd held task regions barriers log.LockOpen = held ≢ []
CantEnd held task regions barriers log.RegionRows = (held ≡ []) × (regions < length task.spans)
CantEnd held task regions barriers log.BarrierCount =
    (held ≡ []) × (length task.spans ≤ regions) × ((others : ℕ) × (task.due_barriers ≡ Some others) × (barriers ≢ others))
CantEnd held task regions barriers _ = ⊥
