-- What a log says besides where mutexes are locked and unlocked.
use Rattle.std.specs.Prelude.{◌≡◌, ◌↔◌, ℕ, Bool, true, false, if◌then◌else◌, List, [], ◌∷◌, Contains}
use Rattle.sw_base.specs.declared.path.Step.{Step}
use Rattle.log_format.specs.declared.record.Record.{Record}
use Rattle.log_format.specs.declared.record.Kind.{Kind}
use Rattle.log_format.specs.declared.record.Kind.TheVariants.{Read, Write, Lock, Unlock, Barrier, Region, Chunk, End, Update}
use Rattle.race_model.specs.Trace.{Logs}
use Rattle.race_model.specs.Race.{IsAccess, held_after_kind}
use Rattle.race_model.specs.ForkJoin.{IsTask, EndsOnce}

-- a record, and the mutexes that its task holds there
pub record Guarded : Type 0 where
  pub event : Record
  pub held : List ℕ

abbrev pub is_mutex_kind : Kind → Bool
is_mutex_kind Lock = true
is_mutex_kind Unlock = true
is_mutex_kind Read = false
is_mutex_kind Write = false
is_mutex_kind Barrier = false
is_mutex_kind Region = false
is_mutex_kind Chunk = false
is_mutex_kind End = false
is_mutex_kind Update = false

abbrev pub with_guarded : Record → List ℕ → List Guarded → List Guarded
with_guarded r held guards = if is_mutex_kind r.kind then guards else record { event = r; held = held } ∷ guards

abbrev pub guarded_from : List ℕ → List Record → List Guarded
guarded_from held [] = []
guarded_from held (r ∷ records) = with_guarded r held (guarded_from (held_after_kind r.kind r.addr held) records)

-- the records of a log but its Locks and Unlocks, in order
abbrev pub guarded : List Record → List Guarded
guarded records = guarded_from [] records

-- the same records, and the accesses among them under the same mutexes, whatever the order in which these were locked
abbrev pub AreGuardedAlike : List Guarded → List Guarded → Type 0
AreGuardedAlike [] [] = Unit {0}
AreGuardedAlike [] (h ∷ others) = ⊥
AreGuardedAlike (g ∷ guards) [] = ⊥
AreGuardedAlike (g ∷ guards) (h ∷ others) = (g.event ≡ h.event) × (IsAccess g.event → (m : ℕ) → Contains g.held m ↔ Contains h.held m) × AreGuardedAlike guards others

-- two runs that differ in where mutexes are locked and unlocked, but not in which ones are held at each access; no log goes on after its End
pub record DifferInLocks (logs others : Logs) : Type 0 where
  pub guards : (path : List Step) → AreGuardedAlike (guarded (logs path)) (guarded (others path))
  pub ended : (path : List Step) → IsTask others path → EndsOnce (others path)
