-- What a contract sees of the desk and of a place.
use Rattle.std.specs.Prelude.{ℕ, Bool, false, List, [], ◌∷◌, slice_set, Option, Some, None}
use Rattle.atomic_table.specs.Seated.{TableId}
use Rattle.hand_over.specs.declared.view.Turn.{Turn}

-- its table, what all parcels are about, and the turn of each lane
pub record DeskValue (A P : Type 0) : Type 0 where
  pub table : TableId
  pub about : A
  pub turns : List (Turn P)

-- its table, what all parcels are about, its lane, what it took, and whether it has seen that the lane is closed
pub record LanePlaceValue (A P : Type 0) : Type 0 where
  pub table : TableId
  pub about : A
  pub lane : ℕ
  pub took : Option P
  pub closed : Bool

-- the same desk, where this is the turn of the lane
abbrev pub with_turn : {A P : Type 0} → DeskValue A P → ℕ → Turn P → DeskValue A P
with_turn desk lane turn = record desk { turns = slice_set desk.turns lane turn }

-- the place of a lane of this table that took nothing yet
abbrev pub new_place : {A P : Type 0} → TableId → A → ℕ → LanePlaceValue A P
new_place table about lane = record { table = table; about = about; lane = lane; took = None; closed = false }

-- a place holds its lane's slot, empty, while it has a parcel
abbrev pub carried : {P : Type 0} → ℕ → Option P → List (ℕ × Option P)
carried lane None = []
carried lane (Some parcel) = (lane, None) ∷ []
