-- Accesses that stand for others: what one run loses, another one reports.
use Rattle.std.specs.Prelude.{◌≡◌, ◌⊎◌, ℕ, Contains, Some}
use Rattle.log_format.specs.declared.record.Record.{Record}
use Rattle.log_format.specs.declared.record.Kind.TheVariants.{Read, Write}
use Rattle.race_model.specs.Trace.{Logs, Node, record_at, IsThere}
use Rattle.race_model.specs.Race.{IsAccess, HasByte, IsUnordered, held_at}
use Rattle.writer_laws.specs.Carrying.{Carries}

-- the second access is of the same line, touches each byte of the first, and is of its kind; or it writes where the first reads
pub record Covers (r s : Record) : Type 0 where
  pub same_line : s.line ≡ r.line
  pub bytes : (byte : ℕ) → HasByte r byte → HasByte s byte
  pub kind : (s.kind ≡ r.kind) ⊎ ((r.kind ≡ Read) × (s.kind ≡ Write))

-- the other run has an access that answers to this one and covers it, under no other mutexes
pub record HasStandIn (Answers : Node → Node → Type 0) (logs others : Logs) (x : Node) (r : Record) : Type 0 where
  pub place : Node
  pub event : Record
  pub found : record_at others place ≡ Some event
  pub answers : Answers x place
  pub covers : Covers r event
  pub mutexes : (m : ℕ) → Contains (held_at others place) m → Contains (held_at logs x) m

-- each access that some record is unordered with has a stand-in
pub record IsReplaced (Answers : Node → Node → Type 0) (logs others : Logs) : Type 0 where
  pub carries : Carries Answers logs others
  pub stand_ins : (x y : Node) (r : Record) → record_at logs x ≡ Some r → IsAccess r → IsThere logs y → IsUnordered logs x y → HasStandIn Answers logs others x r
