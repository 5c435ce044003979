-- The state of a task while it runs, and the steps that put its records.
use Rattle.std.specs.Prelude.{ℕ, zero, suc, List, [], ◌∷◌, ◌++◌, ℤ, slice_set}
use Rattle.std.specs.Int.{w64, cast_unsigned, cast_signed}
use Rattle.std.specs.List.{filter_map}
use Rattle.kernel_syntax.specs.Tree.{TeamTree}
use Rattle.log_format.specs.declared.record.Record.{Record}
use Rattle.log_format.specs.declared.record.Kind.{Kind}
use Rattle.log_format.specs.declared.record.Kind.TheVariants.{Read, Chunk}
use Rattle.std.specs.Prelude.{Option, Some, None}
use Rattle.kernel_model.specs.declared.stop.StopWhy.{StopWhy}
use Rattle.kernel_model.specs.declared.stop.StopWhy.TheVariants.{LogFull}

-- the team of a region that the task forked, and the task's locals at that point
pub record Fork : Type 0 where
  pub team : TeamTree
  pub slots : List ℤ

-- A task's locals, the records that it has put and the regions that it has forked; how many more records its log has room
-- for; and the values that it will read and the chunk numbers that it will draw.
pub record State : Type 0 where
  pub slots : List ℤ
  pub records : List Record
  pub forks : List Fork
  pub room : ℕ
  pub reads : List ℤ
  pub chunks : List ℕ

-- how a part of a task ends: it gives a value, or stops at a line, or wants a value or chunk number that isn't there; no part stops for the
-- number of tasks below its own
pub data Outcome (A : Type 0) : Type 0 where
  Gives : (result : A) → (state : State) → Outcome A
  Stops : (why : StopWhy) → (line : ℕ) → (state : State) → Outcome A
  Wants : (state : State) → Outcome A

-- goes on with the value where there is one
abbrev pub and_then : {A B : Type 0} → Outcome A → (A → State → Outcome B) → Outcome B
and_then (Gives a s) next = next a s
and_then (Stops why line s) next = Stops why line s
and_then (Wants s) next = Wants s

-- goes on where a part ends without a stop
abbrev pub after : Outcome (Unit {0}) → (State → Outcome (Unit {0})) → Outcome (Unit {0})
after (Gives _ s) next = next s
after (Stops why line s) next = Stops why line s
after (Wants s) next = Wants s

abbrev pub state_of : {A : Type 0} → Outcome A → State
state_of (Gives a s) = s
state_of (Stops why line s) = s
state_of (Wants s) = s

-- a value as the 64 bits of a record's field, and back
abbrev pub to_bits : ℤ → ℕ
to_bits v = cast_unsigned w64 v

abbrev pub from_bits : ℕ → ℤ
from_bits n = cast_signed w64 n

-- a record of a kind that is no access
abbrev pub event : Kind → ℕ → ℕ → ℕ → Record
event kind line addr value = record { kind = kind; size = 0; site = 0; line = line; addr = addr; value = value }

-- one more record, where there is this much room
abbrev pub put_in : ℕ → Record → State → Outcome (Unit {0})
put_in zero r s = Stops LogFull r.line s
put_in (suc room) r s = Gives tt (record s { records = s.records ++ r ∷ []; room = room })

-- puts a record, or stops where the log is full
unfoldable pub put : Record → State → Outcome (Unit {0})
put r s = put_in s.room r s

abbrev pub assign : ℕ → ℤ → State → State
assign slot v s = record s { slots = slice_set s.slots slot v }

-- the values that a list of records read, and the chunk numbers that it drew
abbrev pub value_read : Kind → ℕ → Option ℤ
value_read Read value = Some (from_bits value)
value_read _ value = None

abbrev pub number_drawn : Kind → ℕ → Option ℕ
number_drawn Chunk addr = Some addr
number_drawn _ addr = None

abbrev pub reads_of : List Record → List ℤ
reads_of records = filter_map (λ r. value_read r.kind r.value) records

abbrev pub chunks_of : List Record → List ℕ
chunks_of records = filter_map (λ r. number_drawn r.kind r.addr) records
