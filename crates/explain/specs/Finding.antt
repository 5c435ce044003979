-- A record of a log that is looked for, and what is told of it.
use Rattle.std.specs.Prelude.{◌≡◌, ◌≢◌, ℕ, ◌+◌, ◌-◌, ◌^◌, ◌<◌, ◌≤◌, List, ◌∷◌, [], ◌++◌, length, Contains, Option, Some, None}
use Rattle.log_format.specs.declared.record.Record.{Record}
use Rattle.log_format.specs.declared.record.Kind.TheVariants.{Lock, Unlock, Region}
use Rattle.log_walk.specs.declared.fault.WalkFault.{WalkFault}
use Rattle.log_walk.specs.declared.fault.WalkFault.TheVariants as fault
use Rattle.race_model.specs.Race.{held_after}
use Rattle.race_model.specs.Trace.{region_count, barrier_count}
use Rattle.explain.specs.declared.passing.ReadPlace.{ReadPlace}
use Rattle.explain.specs.declared.finding.Found.{Found}
use Rattle.explain.specs.declared.finding.Mark.{Mark}
use Rattle.explain.specs.declared.finding.Mark.TheVariants as mark

-- a read failed, or no memory was found
abbrev pub IsNoPlace : WalkFault → Type 0
IsNoPlace fault.ReadFault = Unit {0}
IsNoPlace fault.Memory = Unit {0}
IsNoPlace _ = ⊥

-- these records were passed
pub record IsPlaceAfter (place : ReadPlace) (before : List Record) : Type 0 where
  pub held : place.held ≡ held_after [] before
  pub records : place.records ≡ length before
  pub regions : place.regions ≡ region_count before
  pub barriers : place.barriers ≡ barrier_count before

-- so many more records can be counted
pub record CanCount (place : ReadPlace) (left : ℕ) : Type 0 where
  pub records : place.records + left ≤ 2 ^ 32 - 1
  pub regions : place.regions ≤ place.records
  pub barriers : place.barriers ≤ place.records

-- a task that holds these mutexes may do this: it locks none of them, and no ninth, and unlocks the innermost
pub record MayFollow (held : List ℕ) (r : Record) : Type 0 where
  pub numbered : (r.kind ≡ Lock) → r.addr < 2 ^ 16
  pub named : (r.kind ≡ Unlock) → r.addr < 2 ^ 16
  pub free : (r.kind ≡ Lock) → Contains held r.addr → ⊥
  pub few : (r.kind ≡ Lock) → length held ≢ 8
  pub innermost : (r.kind ≡ Unlock) → ((outer : List ℕ) → held ≢ outer ++ r.addr ∷ []) → ⊥

-- each record of a log may follow those before it
abbrev pub EachMayFollow : List Record → Type 0
EachMayFollow events = (before after : List Record) (r : Record) → events ≡ before ++ r ∷ after → MayFollow (held_after [] before) r

-- the record after these is the one that is looked for: by how many records come before it, or as the Region of this number, from 0
abbrev pub IsMarked : Mark → List Record → Record → Type 0
IsMarked (mark.Record n) before r = length before ≡ n
IsMarked (mark.Region n) before r = (r.kind ≡ Region) × (region_count before ≡ n)

-- what was found is that record of the log, the mutexes held there and the barriers passed before
pub record IsFound (which : Mark) (events : List Record) (found : Found) : Type 0 where
  pub before : List Record
  pub after : List Record
  pub parts : events ≡ before ++ found.event ∷ after
  pub marked : IsMarked which before found.event
  pub held : found.held ≡ held_after [] before
  pub barriers : found.barriers ≡ barrier_count before

-- no record of the log is that one
abbrev pub HasNone : Mark → List Record → Type 0
HasNone which events = (before after : List Record) (r : Record) → events ≡ before ++ r ∷ after → IsMarked which before r → ⊥

-- the record that is looked for was found, or there is none
abbrev pub FindsMarked : Mark → List Record → Option Found → Type 0
FindsMarked which events None = HasNone which events
FindsMarked which events (Some found) = IsFound which events found
