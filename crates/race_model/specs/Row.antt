-- The rows of an index, and how they are spelled.
use Rattle.std.specs.Prelude.{◌≡◌, ℕ, ◌-◌, ◌^◌, ◌<◌, List, ◌++◌, length, take, drop, map, replicate, All}
use Rattle.std.specs.Int.{w16, w32, w64, to_be_bytes}
use Rattle.std.specs.List.{flat_map}
use Rattle.sw_base.specs.declared.path.Step.{Step}
use Rattle.log_format.specs.declared.format.Format.{Format}
use Rattle.log_format.specs.Format.{index_header}

-- a task: its path, and how many records its log has
pub record Row : Type 0 where
  pub path : List Step
  pub records : ℕ

abbrev pub row_path : Row → List Step
row_path row = row.path

-- the fields of a row in the file: of its four steps the first `depth` are used
pub record RawRow : Type 0 where
  pub depth : ℕ
  pub reserved : ℕ
  pub steps : List Step
  pub records : ℕ

-- each field of a step is below its width
pub record StepFits (step : Step) : Type 0 where
  pub region : step.region < 2 ^ 32
  pub lane : step.lane < 2 ^ 16
  pub span : step.span < 2 ^ 16

-- each field of a row is below its width, and there are four steps
pub record RowFits (row : RawRow) : Type 0 where
  pub depth : row.depth < 2 ^ 32
  pub reserved : row.reserved < 2 ^ 32
  pub four : length row.steps ≡ 4
  pub steps : All StepFits row.steps
  pub records : row.records < 2 ^ 64

-- the eight bytes of a step: region, lane and span, each high byte first
unfoldable pub step_spelling : Step → List ℕ
step_spelling step = to_be_bytes w32 step.region ++ to_be_bytes w16 step.lane ++ to_be_bytes w16 step.span

-- the 48 bytes of a row: depth, a field that is 0, four steps and the records, each high byte first
unfoldable pub row_spelling : RawRow → List ℕ
row_spelling row = to_be_bytes w32 row.depth ++ to_be_bytes w32 row.reserved ++ flat_map step_spelling row.steps ++ to_be_bytes w64 row.records

-- the steps of the row's path
abbrev pub used : RawRow → List Step
used row = take row.depth row.steps

-- the steps past its end
abbrev pub unused : RawRow → List Step
unused row = drop row.depth row.steps

-- a step of zeros
abbrev pub no_step : Step
no_step = record { region = 0; lane = 0; span = 0 }

-- how a row stands in the file: after the path's steps, steps of zeros
abbrev pub raw_of : Row → RawRow
raw_of row = record { depth = length row.path; reserved = 0; steps = row.path ++ replicate (4 - length row.path) no_step; records = row.records }

-- an index: its header, and then its rows
abbrev pub index_bytes : Format → List Row → List ℕ
index_bytes format rows = index_header format ++ flat_map row_spelling (map raw_of rows)
