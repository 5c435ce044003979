-- The table of records: which values each kind allows, as one test for each fault.
use Rattle.std.specs.Prelude.{◌≡◌, ◌≢◌, ◌⊎◌, ℕ, ◌+◌, ◌^◌, ◌<◌, ◌≤◌, List, slice_index}
use Rattle.log_format.specs.declared.record.Kind.{Kind}
use Rattle.log_format.specs.declared.record.Kind.TheVariants.{Read, Write, Lock, Unlock, Barrier, Region, Chunk, End, Update}
use Rattle.log_format.specs.declared.record.Record.{Record}
use Rattle.log_format.specs.declared.record.Why.{Why}
use Rattle.log_format.specs.declared.record.Why.TheVariants as why
use Rattle.log_format.specs.declared.format.Format.{Format}
use Rattle.log_format.specs.Fitting.{IsWidth}
use Rattle.log_format.specs.Format.{AllowsKind}
use Rattle.log_format.specs.Spelling.{kind_code, spelling}

-- each field is below its width, as every field of a program's record is
pub record RecordFits (r : Record) : Type 0 where
  pub size : r.size < 2 ^ 8
  pub site : r.site < 2 ^ 16
  pub line : r.line < 2 ^ 32
  pub addr : r.addr < 2 ^ 64
  pub value : r.value < 2 ^ 64

-- a record of this kind changes memory
abbrev pub ChangesMemory : Kind → Type 0
ChangesMemory kind = (kind ≡ Write) ⊎ (kind ≡ Update)

-- a record of this kind reads or changes memory
abbrev pub AccessesMemory : Kind → Type 0
AccessesMemory kind = (kind ≡ Read) ⊎ ChangesMemory kind

-- an access has 1, 2, 4 or 8 bytes, and nothing else has any
abbrev pub HasSize : Kind → ℕ → Type 0
HasSize Read n = IsWidth n
HasSize Write n = IsWidth n
HasSize Update n = IsWidth n
HasSize _ n = n ≡ 0

-- an access ends at 2^48 or before; a mutex's number is below 2^16
abbrev pub HasAddress : Kind → Record → Type 0
HasAddress Read r = r.addr + r.size ≤ 2 ^ 48
HasAddress Write r = r.addr + r.size ≤ 2 ^ 48
HasAddress Update r = r.addr + r.size ≤ 2 ^ 48
HasAddress Lock r = r.addr < 2 ^ 16
HasAddress Unlock r = r.addr < 2 ^ 16
HasAddress _ r = Unit {0}

-- a region has 1 to 64 lanes
abbrev pub SpanIsTabled : Kind → Record → Type 0
SpanIsTabled Region r = (1 ≤ r.value) × (r.value ≤ 64)
SpanIsTabled _ r = Unit {0}

-- what a kind doesn't use is 0, and a chunk's number is at most how many there are
abbrev pub HasNothingElse : Kind → Record → Type 0
HasNothingElse Lock r = (r.site ≡ 0) × (r.value ≡ 0)
HasNothingElse Unlock r = (r.site ≡ 0) × (r.value ≡ 0)
HasNothingElse Barrier r = (r.site ≡ 0) × (r.addr ≡ 0) × (r.value ≡ 0)
HasNothingElse Region r = (r.site ≡ 0) × (r.addr ≡ 0)
HasNothingElse Chunk r = (r.site ≡ 0) × (r.addr ≤ r.value)
HasNothingElse End r = (r.site ≡ 0) × (r.addr ≡ 0) × (r.value ≡ 0)
HasNothingElse _ r = Unit {0}

-- a record passes the test that the fault names
abbrev pub PassesTable : Format → Record → Why → Type 0
PassesTable format r why.Kind = AllowsKind format r.kind
PassesTable format r why.Size = HasSize r.kind r.size
PassesTable format r why.LineZero = 1 ≤ r.line
PassesTable format r why.Address = HasAddress r.kind r
PassesTable format r why.Span = SpanIsTabled r.kind r
PassesTable format r why.Reserved = HasNothingElse r.kind r

-- a record of the format's table
pub record IsTabled (format : Format) (r : Record) : Type 0 where
  pub fits : RecordFits r
  pub passes : (w : Why) → PassesTable format r w

-- the place of a test among the tests
abbrev pub rank : Why → ℕ
rank why.Kind = 0
rank why.Size = 1
rank why.LineZero = 2
rank why.Address = 3
rank why.Span = 4
rank why.Reserved = 5

-- the first test that a record fails
pub record IsFirstFailed (format : Format) (r : Record) (w : Why) : Type 0 where
  pub fails : PassesTable format r w → ⊥
  pub before : (v : Why) → rank v < rank w → PassesTable format r v

-- bytes that spell a record of the table
pub record Spells (format : Format) (bytes : List ℕ) (r : Record) : Type 0 where
  pub tabled : IsTabled format r
  pub spelled : bytes ≡ spelling r

-- bytes whose fields make a record that fails this test first
pub record FailsTableFirst (format : Format) (bytes : List ℕ) (w : Why) : Type 0 where
  pub fields : Record
  pub fits : RecordFits fields
  pub spelled : bytes ≡ spelling fields
  pub failed : IsFirstFailed format fields w

-- the first fault of bytes: they name no kind of the format, or their fields fail a test
abbrev pub IsFirstFault : Format → List ℕ → Why → Type 0
IsFirstFault format bytes why.Kind = (k : Kind) → AllowsKind format k → slice_index bytes 0 ≢ kind_code k
IsFirstFault format bytes w = FailsTableFirst format bytes w
