-- Well-formed indexes, and the places at which an index is bad.
use Rattle.std.specs.Prelude.{◌≡◌, ◌≢◌, ◌⊎◌, ℕ, ◌+◌, ◌^◌, ◌<◌, ◌≤◌, List, [], ◌∷◌, ◌++◌, length, take, map, All, Some, None}
use Rattle.std.specs.List.{flat_map}
use Rattle.sw_base.specs.declared.path.Step.{Step}
use Rattle.sw_base.specs.Environment.{Files}
use Rattle.sw_base.specs.Names.{index_name}
use Rattle.log_format.specs.declared.format.Format.{Format}
use Rattle.log_format.specs.Format.{index_header, older_header}
use Rattle.log_format.specs.Limit.{record_limit}
use Rattle.race_model.specs.declared.why.IndexWhy.{IndexWhy}
use Rattle.race_model.specs.declared.why.IndexWhy.TheVariants.{Old, Header, TooMany, Cut, Depth, Span, Lane, Order, Records}
use Rattle.race_model.specs.BadPlace.{BadPlace, no_index, bad_row, missing_log, bad_record, too_many_segments, index_rank, IsEarlier}
use Rattle.race_model.specs.Row.{Row, RawRow, RowFits, row_path, row_spelling, used, unused, no_step, index_bytes}
use Rattle.race_model.specs.Listing.{IsListing, BeginsListing}

-- a region has 1 to 64 lanes
pub record HasRegionSpan (step : Step) : Type 0 where
  pub some : 1 ≤ step.span
  pub limit : step.span ≤ 64

-- the lanes of a region are numbered from 0
abbrev pub HasLaneInSpan : Step → Type 0
HasLaneInSpan step = step.lane < step.span

-- a path has at most four steps, and the fields past its end are zero
pub record HasDepth (row : RawRow) : Type 0 where
  pub limit : row.depth ≤ 4
  pub reserved : row.reserved ≡ 0
  pub unused : All (λ step. step ≡ no_step) (unused row)

abbrev pub max_rows : ℕ
max_rows = 65536

-- a log has a record at least
pub record HasRecords (records : ℕ) : Type 0 where
  pub some : 1 ≤ records
  pub limit : records ≤ record_limit

-- a row after others passes the test that the fault names
abbrev pub RowPasses : List RawRow → RawRow → IndexWhy → Type 0
RowPasses before row Depth = HasDepth row
RowPasses before row Span = All HasRegionSpan (used row)
RowPasses before row Lane = All HasLaneInSpan (used row)
RowPasses before row Order = BeginsListing (map used (before ++ row ∷ []))
RowPasses before row Records = HasRecords row.records
RowPasses before row _ = Unit {0}

-- a whole row is next, and it fails the test
pub record FailsTest (before : List RawRow) (rest : List ℕ) (why : IndexWhy) : Type 0 where
  pub row : RawRow
  pub more : List ℕ
  pub fits : RowFits row
  pub spelled : rest ≡ row_spelling row ++ more
  pub fails : RowPasses before row why → ⊥

-- after these rows, the bytes that are left have this fault
abbrev pub Fails : List RawRow → List ℕ → IndexWhy → Type 0
Fails before rest Old = ⊥
Fails before rest Header = ⊥
Fails before rest TooMany = (length before ≡ max_rows) × (rest ≢ [])
Fails before rest Cut = ((rest ≢ []) × (length rest < 48)) ⊎ ((before ≡ []) × (rest ≡ []))
Fails before rest Order = FailsTest before rest Order ⊎ ((rest ≡ []) × (IsListing (map used before) → ⊥))
Fails before rest why = FailsTest before rest why

-- and none of the faults that are tried before
pub record FailsIndexFirst (before : List RawRow) (rest : List ℕ) (why : IndexWhy) : Type 0 where
  pub fails : Fails before rest why
  pub least : (other : IndexWhy) → index_rank other < index_rank why → Fails before rest other → ⊥

-- the bytes are the header, the rows before the n-th, which are as many as there must be, and the rest
pub record IsAtRow (format : Format) (bytes : List ℕ) (n : ℕ) (before : List RawRow) (rest : List ℕ) : Type 0 where
  pub number : n ≡ length before + 1
  pub fit : All RowFits before
  pub parts : bytes ≡ index_header format ++ flat_map row_spelling before ++ rest

-- the n-th row has this fault
pub record HasRowFault (format : Format) (bytes : List ℕ) (n : ℕ) (why : IndexWhy) : Type 0 where
  pub before : List RawRow
  pub rest : List ℕ
  pub at_row : IsAtRow format bytes n before rest
  pub fails : Fails before rest why

-- row n of these bytes is bad, rows numbered from 1; row 0 is the header, which may be that of the format before
abbrev pub IsBadRow : Format → List ℕ → ℕ → IndexWhy → Type 0
IsBadRow format bytes n Old = (n ≡ 0) × (older_header format ≡ Some (take 8 bytes))
IsBadRow format bytes n Header = (n ≡ 0) × (take 8 bytes ≢ index_header format)
IsBadRow format bytes n why = HasRowFault format bytes n why

-- the folder's index has this bad row
pub record HoldsBadRow (format : Format) (files : Files) (dir : List ℕ) (n : ℕ) (why : IndexWhy) : Type 0 where
  pub bytes : List ℕ
  pub held : files (index_name dir) ≡ Some bytes
  pub bad : IsBadRow format bytes n why

-- a place of the index at which the folder is bad
abbrev pub IsBadIndexPlace : Format → Files → List ℕ → BadPlace → Type 0
IsBadIndexPlace format files dir no_index = files (index_name dir) ≡ None
IsBadIndexPlace format files dir (bad_row n why) = HoldsBadRow format files dir n why
IsBadIndexPlace format files dir (missing_log row) = ⊥
IsBadIndexPlace format files dir (bad_record row n why) = ⊥
IsBadIndexPlace format files dir (too_many_segments row n) = ⊥

-- the first of them
pub record IsFirstBadIndexPlace (format : Format) (files : Files) (dir : List ℕ) (place : BadPlace) : Type 0 where
  pub bad : IsBadIndexPlace format files dir place
  pub least : (q : BadPlace) → IsEarlier q place → IsBadIndexPlace format files dir q → ⊥

-- a step of a path
pub record IsStep (step : Step) : Type 0 where
  pub region : step.region < 2 ^ 32
  pub span : HasRegionSpan step
  pub lane : HasLaneInSpan step

-- a row of an index
pub record IsRow (row : Row) : Type 0 where
  pub depth : length row.path ≤ 4
  pub steps : All IsStep row.path
  pub records : HasRecords row.records

-- the first rows of a well-formed index
pub record AreFirstRows (rows : List Row) : Type 0 where
  pub begins : BeginsListing (map row_path rows)
  pub each : All IsRow rows
  pub limit : length rows ≤ max_rows

-- the rows of a well-formed index: a whole listing
pub record AreRows (rows : List Row) : Type 0 where
  pub lists : IsListing (map row_path rows)
  pub each : All IsRow rows
  pub limit : length rows ≤ max_rows

-- the folder holds a well-formed index with these rows
pub record IsIndex (format : Format) (files : Files) (dir : List ℕ) (rows : List Row) : Type 0 where
  pub held : files (index_name dir) ≡ Some (index_bytes format rows)
  pub rows_are : AreRows rows
