-- The races of two lines, and the least of them by row and number.
use Rattle.std.specs.Prelude.{◌≡◌, ◌⊎◌, ℕ, ◌+◌, ◌<◌, ◌≤◌, min, max, Option, Some, None}
use Rattle.log_format.specs.declared.record.Record.{Record}
use Rattle.race_model.specs.Race.{IsRace}
use Rattle.race_model.specs.Trace.{Trace, Logs, Node, logs_of}
use Rattle.explain.specs.Witness.{IsInLog, IsLeastByte, NamesRecord}
use Rattle.explain.specs.declared.searching.Hit.{Hit}
use Rattle.explain.specs.declared.searching.FoundPartner.{FoundPartner}
use Rattle.explain.specs.declared.explaining.RacePair.{RacePair}

-- two records race, first at this byte, and these are their lines, the smaller first
pub record RacesOn (logs : Logs) (lines : ℕ × ℕ) (x y : Node) (byte : ℕ) : Type 0 where
  pub r : Record
  pub s : Record
  pub race : IsRace logs x y r s
  pub lines_are : lines ≡ (min r.line s.line, max r.line s.line)
  pub least : IsLeastByte r s byte

-- two named records race in these lines, and the first is of an earlier row
pub record IsWitness (trace : Trace) (lines : ℕ × ℕ) (first_row first second_row second byte : ℕ) : Type 0 where
  pub x : Node
  pub y : Node
  pub left : NamesRecord trace first_row first x
  pub right : NamesRecord trace second_row second y
  pub in_order : first_row < second_row
  pub races : RacesOn (logs_of trace) lines x y byte

-- a record comes no later than another, by row and then by number
abbrev pub IsUpTo : ℕ → ℕ → ℕ → ℕ → Type 0
IsUpTo row number other_row other = (row < other_row) ⊎ ((row ≡ other_row) × (number ≤ other))

-- of all such races this one has the least first record, and with that the least second one
pub record IsLeastWitness (trace : Trace) (lines : ℕ × ℕ) (found : RacePair) : Type 0 where
  pub witness : IsWitness trace lines found.first_row found.first found.second_row found.second found.byte
  pub first_least : (a i b j byte : ℕ) → IsWitness trace lines a i b j byte → IsUpTo found.first_row found.first a i
  pub second_least : (b j byte : ℕ) → IsWitness trace lines found.first_row found.first b j byte → IsUpTo found.second_row found.second b j

-- the least race of these lines, or that there is none
abbrev pub FindsLeast : Trace → ℕ × ℕ → Option RacePair → Type 0
FindsLeast trace lines None = (a i b j byte : ℕ) → IsWitness trace lines a i b j byte → ⊥
FindsLeast trace lines (Some found) = IsLeastWitness trace lines found

-- no race of these lines has this record as its first one
abbrev pub HasNoPartner : Trace → ℕ × ℕ → ℕ → Node → Type 0
HasNoPartner trace lines place x = (other : ℕ) (y : Node) (byte : ℕ) → place < other → IsInLog trace other y → RacesOn (logs_of trace) lines x y byte → ⊥

-- the first record of the log of this place that races with x in these lines
pub record IsFirstHit (trace : Trace) (lines : ℕ × ℕ) (x : Node) (place : ℕ) (hit : Hit) : Type 0 where
  pub y : Node
  pub stands : IsInLog trace place y
  pub number_is : hit.number ≡ y.index + 1
  pub races : RacesOn (logs_of trace) lines x y hit.byte
  pub least : (z : Node) (byte : ℕ) → IsInLog trace place z → RacesOn (logs_of trace) lines x z byte → y.index ≤ z.index

abbrev pub FindsHit : Trace → ℕ × ℕ → Node → ℕ → Option Hit → Type 0
FindsHit trace lines x place None = (y : Node) (byte : ℕ) → IsInLog trace place y → RacesOn (logs_of trace) lines x y byte → ⊥
FindsHit trace lines x place (Some hit) = IsFirstHit trace lines x place hit

-- the first record of the later rows that races with x in these lines
pub record IsFirstPartner (trace : Trace) (lines : ℕ × ℕ) (place : ℕ) (x : Node) (partner : FoundPartner) : Type 0 where
  pub other : ℕ
  pub later : place < other
  pub row_is : partner.row ≡ other + 1
  pub first : IsFirstHit trace lines x other partner.hit
  pub least : (another : ℕ) (z : Node) (byte : ℕ) → place < another → another < other → IsInLog trace another z → RacesOn (logs_of trace) lines x z byte → ⊥

abbrev pub FindsPartner : Trace → ℕ × ℕ → ℕ → Node → Option FoundPartner → Type 0
FindsPartner trace lines place x None = HasNoPartner trace lines place x
FindsPartner trace lines place x (Some partner) = IsFirstPartner trace lines place x partner

-- the first record of the log of this place that races in these lines with one of a later row, and the first such one
pub record IsFirstRace (trace : Trace) (lines : ℕ × ℕ) (place : ℕ) (found : RacePair) : Type 0 where
  pub x : Node
  pub stands : IsInLog trace place x
  pub row_is : found.first_row ≡ place + 1
  pub number_is : found.first ≡ x.index + 1
  pub partner : IsFirstPartner trace lines place x (record { row = found.second_row; hit = record { number = found.second; byte = found.byte } })
  pub least : (z : Node) → IsInLog trace place z → z.index < x.index → HasNoPartner trace lines place z

abbrev pub FindsRace : Trace → ℕ × ℕ → ℕ → Option RacePair → Type 0
FindsRace trace lines place None = (x : Node) → IsInLog trace place x → HasNoPartner trace lines place x
FindsRace trace lines place (Some found) = IsFirstRace trace lines place found
