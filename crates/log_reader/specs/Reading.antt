-- A log that is read record by record.
use Rattle.std.specs.Prelude.{◌≡◌, ℕ, List, [], ◌∷◌, All, length, drop, Option, Some, None}
use Rattle.std.specs.List.{flat_map}
use Rattle.log_format.specs.declared.format.Format.{Format}
use Rattle.log_format.specs.declared.record.Record.{Record}
use Rattle.log_format.specs.Spelling.{spelling}
use Rattle.log_format.specs.Table.{IsTabled}
use Rattle.sw_base.specs.Environment.{Content}
use Rattle.sw_base.specs.Window.{Window, Shows, file_of}

-- what is seen of a reader: the format of its file, its window over the file of this name, and how many records it gives at most from there on
pub record Reading : Type 0 where
  pub format : Format
  pub window : Window
  pub name : List ℕ
  pub left : ℕ

-- the reader stands before these records, which are all that the file has from there on
pub record StandsBefore (content : Content) (reading : Reading) (records : List Record) : Type 0 where
  pub shows : Shows reading.window (file_of content reading.name)
  pub rest : drop reading.window.place (file_of content reading.name) ≡ flat_map spelling records
  pub left : reading.left ≡ length records
  pub tabled : All (IsTabled reading.format) records

-- the answer of a reader that stood before these records: the first of them, after which it stands before the others
abbrev pub GivesNext : Content → List Record → Option Record → Reading → Type 0
GivesNext content [] answer new = (answer ≡ None) × StandsBefore content new []
GivesNext content (r ∷ rs) answer new = (answer ≡ Some r) × StandsBefore content new rs
