-- Data races: two accesses of a common byte, one of which changes memory and not both atomic, that no fork, join or barrier orders
-- and no mutex excludes
-- (SWORD, Atzeni and others, IPDPS 2018).
use Rattle.std.specs.Prelude.{◌≡◌, ◌↔◌, ◌⊎◌, ℕ, ◌+◌, ◌<◌, ◌≤◌, not, ◌==◌, List, [], ◌∷◌, ◌++◌, take, filter, min, max, Contains, Some}
use Rattle.std.specs.declared.cmp.Ordering.{Ordering}
use Rattle.std.specs.Ordering.{nat_cmp, ordering_then}
use Rattle.std.specs.List.Sorted.{IsStrictlySortedBy}
use Rattle.log_format.specs.declared.record.Record.{Record}
use Rattle.log_format.specs.declared.record.Kind.{Kind}
use Rattle.log_format.specs.declared.record.Kind.TheVariants.{Lock, Unlock, Update}
use Rattle.log_format.specs.Table.{AccessesMemory, ChangesMemory}
use Rattle.race_model.specs.Trace.{Logs, Node, record_at}
use Rattle.race_model.specs.Order.{HappensBefore}

-- a record changes memory
abbrev pub IsChange : Record → Type 0
IsChange r = ChangesMemory r.kind

-- a record reads or changes memory
abbrev pub IsAccess : Record → Type 0
IsAccess r = AccessesMemory r.kind

-- the access touches the byte
pub record HasByte (r : Record) (byte : ℕ) : Type 0 where
  pub from_start : r.addr ≤ byte
  pub to_end : byte < r.addr + r.size

-- two accesses touch a common byte
abbrev pub SharesByte : Record → Record → Type 0
SharesByte r s = (byte : ℕ) × HasByte r byte × HasByte s byte

-- the mutexes held after a record of this kind and mutex
abbrev pub held_after_kind : Kind → ℕ → List ℕ → List ℕ
held_after_kind Lock m held = held ++ m ∷ []
held_after_kind Unlock m held = filter (λ other. not (other == m)) held
held_after_kind _ m held = held

abbrev pub held_after : List ℕ → List Record → List ℕ
held_after held [] = held
held_after held (r ∷ records) = held_after (held_after_kind r.kind r.addr held) records

-- the mutexes that the task holds at this record, in order of locking
abbrev pub held_at : Logs → Node → List ℕ
held_at logs x = held_after [] (take x.index (logs x.path))

-- neither record happens before the other
pub record IsUnordered (logs : Logs) (x y : Node) : Type 0 where
  pub not_before : HappensBefore logs x y → ⊥
  pub not_after : HappensBefore logs y x → ⊥

-- the records r at x and s at y are a data race
pub record IsRace (logs : Logs) (x y : Node) (r s : Record) : Type 0 where
  pub left : record_at logs x ≡ Some r
  pub right : record_at logs y ≡ Some s
  pub left_access : IsAccess r
  pub right_access : IsAccess s
  pub unordered : IsUnordered logs x y
  pub shares : SharesByte r s
  pub changes : IsChange r ⊎ IsChange s
  pub not_both_updates : r.kind ≡ Update → s.kind ≡ Update → ⊥
  pub no_mutex : (m : ℕ) → Contains (held_at logs x) m → Contains (held_at logs y) m → ⊥

-- the lines of a race, the smaller first
pub record IsRacePair (logs : Logs) (pair : ℕ × ℕ) : Type 0 where
  pub x : Node
  pub y : Node
  pub r : Record
  pub s : Record
  pub race : IsRace logs x y r s
  pub lines : pair ≡ (min r.line s.line, max r.line s.line)

-- the order of line pairs: by the first line, then by the second
abbrev pub pair_cmp : ℕ × ℕ → ℕ × ℕ → Ordering
pair_cmp one other = ordering_then (nat_cmp one.0 other.0) (nat_cmp one.1 other.1)

-- the pairs with a property, each once and in ascending order
pub record Lists (P : ℕ × ℕ → Type 0) (pairs : List (ℕ × ℕ)) : Type 0 where
  pub ascending : IsStrictlySortedBy pair_cmp pairs
  pub each : (pair : ℕ × ℕ) → Contains pairs pair ↔ P pair
