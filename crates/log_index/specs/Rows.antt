-- What reading the rows of an index tells.
use Rattle.std.specs.Prelude.{◌≡◌, ℕ, ◌+◌, ◌<◌, ◌≤◌, List, [], ◌∷◌, ◌++◌, length, drop, map, Some}
use Rattle.std.specs.List.{flat_map}
use Rattle.sw_base.specs.Environment.{Files}
use Rattle.sw_base.specs.Names.{index_name}
use Rattle.sw_base.specs.Window.{Window, Shows}
use Rattle.log_format.specs.declared.format.Format.{Format}
use Rattle.race_model.specs.declared.why.IndexWhy.{IndexWhy}
use Rattle.race_model.specs.BadPlace.{bad_row, index_rank}
use Rattle.race_model.specs.Row.{Row, RawRow, row_spelling, raw_of, index_bytes}
use Rattle.race_model.specs.IndexFault.{RowPasses, FailsIndexFirst, AreFirstRows, AreRows, IsFirstBadIndexPlace}
use Rattle.log_index.specs.declared.fields.Fields.{Fields}

abbrev pub raw_of_fields : Fields → RawRow
raw_of_fields fields = record { depth = fields.depth; reserved = fields.reserved; steps = fields.steps; records = fields.records }

-- the first test that a row after others fails
pub record FailsTestFirst (before : List RawRow) (row : RawRow) (why : IndexWhy) : Type 0 where
  pub fails : RowPasses before row why → ⊥
  pub passed : (other : IndexWhy) → index_rank other < index_rank why → RowPasses before row other

-- the bytes that are left begin with this row, and it may follow the rows of an index
pub record AddsRow (before : List Row) (row : Row) (rest : List ℕ) : Type 0 where
  pub good : AreFirstRows (before ++ row ∷ [])
  pub whole : 48 ≤ length rest
  pub parts : rest ≡ row_spelling (raw_of row) ++ drop 48 rest

-- what is left of an index after good rows has a first fault, at the row of this number
pub record FailsAt (bytes : List ℕ) (n : ℕ) (why : IndexWhy) : Type 0 where
  pub before : List Row
  pub rest : List ℕ
  pub good : AreFirstRows before
  pub parts : bytes ≡ flat_map row_spelling (map raw_of before) ++ rest
  pub number : n ≡ length before + 1
  pub first : FailsIndexFirst (map raw_of before) rest why

-- these bytes are the first rows of an index
pub record SpellsFirstRows (bytes : List ℕ) (rows : List Row) : Type 0 where
  pub spelled : bytes ≡ flat_map row_spelling (map raw_of rows)
  pub good : AreFirstRows rows

-- one more row was read
pub record OneMore (before now : List Row) (rest : List ℕ) : Type 0 where
  pub row : Row
  pub rows : now ≡ before ++ row ∷ []
  pub adds : AddsRow before row rest

-- the window went on by a row
pub record HasNextRow (before now : List Row) (old new : Window) : Type 0 where
  pub good : AreFirstRows now
  pub count : length now ≡ length before + 1
  pub place : new.place ≡ old.place + 48

-- that of this file
pub record ReadsRow (file : List ℕ) (before now : List Row) (old new : Window) : Type 0 where
  pub shows : Shows new file
  pub more : OneMore before now (drop old.place file)

-- these bytes spell the rows of a well-formed index
pub record SpellsRows (format : Format) (bytes : List ℕ) (rows : List Row) : Type 0 where
  pub spelled : bytes ≡ index_bytes format rows
  pub rows_are : AreRows rows

-- a folder whose index has these bytes has its first bad place at this row
abbrev pub IsFirstBadRow : Format → List ℕ → ℕ → IndexWhy → Type 0
IsFirstBadRow format bytes n why = (files : Files) (dir : List ℕ) → files (index_name dir) ≡ Some bytes → IsFirstBadIndexPlace format files dir (bad_row n why)
