-- The turns of a team's lanes, as the first thread's desk knows them.
use Rattle.std.specs.Prelude.{◌≡◌, ℕ, ◌<◌, List}
use Rattle.atomic_table.specs.Seated.{TableId}
use Rattle.hand_over.specs.Handles.{DeskValue}
use Rattle.hand_over.specs.declared.view.Turn.{Turn}
use Rattle.hand_over.specs.declared.view.Turn.TheVariants.{Idle, Closed}
use Rattle.hand_over.specs.Views.{turn_at}

module _ {P : Type 0} where
  -- no parcel is out on the first lanes
  abbrev pub AreIdle : ℕ → List (Turn P) → Type 0
  AreIdle lanes turns = (lane : ℕ) → lane < lanes → turn_at turns lane ≡ Idle

  -- the first lanes are closed
  abbrev pub AreClosed : ℕ → List (Turn P) → Type 0
  AreClosed lanes turns = (lane : ℕ) → lane < lanes → turn_at turns lane ≡ Closed

  -- each lane's turn is the same
  abbrev pub AreSame : List (Turn P) → List (Turn P) → Type 0
  AreSame before after = (lane : ℕ) → turn_at after lane ≡ turn_at before lane

module _ {A P : Type 0} where
  -- the desk of this table, where no parcel is out on the first lanes
  pub record IsIdleDesk (table : TableId) (lanes : ℕ) (desk : DeskValue A P) : Type 0 where
    pub table_is : desk.table ≡ table
    pub idle : AreIdle lanes desk.turns

  -- the same desk, where each lane's turn is the same
  pub record IsSameDesk (before after : DeskValue A P) : Type 0 where
    pub table_is : after.table ≡ before.table
    pub home : AreSame before.turns after.turns
