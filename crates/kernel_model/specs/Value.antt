-- The value of an expression, and the Read records that it makes.
use Rattle.std.specs.Prelude.{ℕ, zero, suc, ◌+◌, ◌*◌, List, [], ◌∷◌, ◌++◌, ℤ, pos, negsuc, nat_lt, if◌then◌else◌, Option, Some, None, slice_get, slice_index_or}
use Rattle.kernel_syntax.specs.declared.syntax.Array.{Array}
use Rattle.kernel_syntax.specs.Tree.{Term, Number, Slot, Tid, Span, Load, Neg, Binary}
use Rattle.log_format.specs.Fitting.{fitted}
use Rattle.kernel_syntax.specs.Arithmetic.{applied, negated}
use Rattle.log_format.specs.declared.record.Record.{Record}
use Rattle.log_format.specs.declared.record.Kind.{Kind}
use Rattle.log_format.specs.declared.record.Kind.TheVariants.{Read}
use Rattle.kernel_model.specs.State.{State, Outcome, Gives, Stops, Wants, and_then, to_bits}
use Rattle.kernel_model.specs.declared.stop.StopWhy.TheVariants.{DivZero, Index, LogFull}

-- where a task runs: the kernel's arrays, its lane and its team's number of lanes
pub record Site : Type 0 where
  pub arrays : List Array
  pub lane : ℕ
  pub span : ℕ

-- an element: its address and its bytes
pub record Element : Type 0 where
  pub addr : ℕ
  pub width : ℕ

-- the element of an array at an index; none outside the array
abbrev pub element_of : Option Array → ℤ → Option Element
element_of (Some a) (pos i) = if nat_lt i a.count then Some (record { addr = a.base + i * a.width; width = a.width }) else None
element_of (Some a) (negsuc i) = None
element_of None i = None

abbrev pub element_at : List Array → ℕ → ℤ → Option Element
element_at arrays array i = element_of (slice_get arrays array) i

-- the record of an access
abbrev pub access : Kind → Element → ℕ → ℕ → ℤ → Record
access kind e site line v = record { kind = kind; size = e.width; site = site; line = line; addr = e.addr; value = to_bits v }

-- a read takes the next value, where there is room for its record
abbrev pub read_in : ℕ → List ℤ → Element → ℕ → ℕ → State → Outcome ℤ
read_in zero reads e site line s = Stops LogFull line s
read_in (suc room) [] e site line s = Wants s
read_in (suc room) (v ∷ reads) e site line s =
    Gives (fitted v e.width) (record s { records = s.records ++ access Read e site line (fitted v e.width) ∷ []; room = room; reads = reads })

unfoldable pub read : Element → ℕ → ℕ → State → Outcome ℤ
read e site line s = read_in s.room s.reads e site line s

abbrev pub loaded : Option Element → ℕ → ℕ → State → Outcome ℤ
loaded None line site s = Stops Index line s
loaded (Some e) line site s = read e site line s

-- an operation's result, or the stop of a zero divisor
abbrev pub operated : Option ℤ → ℕ → State → Outcome ℤ
operated None line s = Stops DivZero line s
operated (Some v) line s = Gives v s

-- the value of a term
unfoldable pub value : Site → Term → State → Outcome ℤ
value at (Number n) s = Gives n s
value at (Slot k) s = Gives (slice_index_or s.slots k (pos 0)) s
value at Tid s = Gives (pos at.lane) s
value at Span s = Gives (pos at.span) s
value at (Load array index line site) s = and_then (value at index s) (λ i s. loaded (element_at at.arrays array i) line site s)
value at (Neg operand) s = and_then (value at operand s) (λ v s. Gives (negated v) s)
value at (Binary op line left right) s =
    and_then (value at left s) (λ x s. and_then (value at right s) (λ y s. operated (applied op x y) line s))
