-- What the desk knows of many lanes.
use Rattle.std.specs.Prelude.{◌≡◌, ℕ, ◌<◌, ◌≤◌, List}
use Rattle.hand_over.specs.declared.view.Turn.{Turn}
use Rattle.hand_over.specs.declared.view.Turn.TheVariants.{Idle, Out, Closed}
use Rattle.hand_over.specs.Views.{turn_at}

module _ {P : Type 0} where
  abbrev pub IsIdle : Turn P → Type 0
  IsIdle turn = turn ≡ Idle

  pub record IsOut (turn : Turn P) : Type 0 where
    pub sent : P
    pub is : turn ≡ Out sent

  abbrev pub IsAny : Turn P → Type 0
  IsAny turn = Unit {0}

  -- the first lanes have turns of one kind, and the others of another
  pub record AreParted (lanes first : ℕ) (One Other : Turn P → Type 0) (turns : List (Turn P)) : Type 0 where
    pub before : (lane : ℕ) → lane < first → One (turn_at turns lane)
    pub behind : (lane : ℕ) → first ≤ lane → lane < lanes → Other (turn_at turns lane)

  abbrev pub AreAll : ℕ → (Turn P → Type 0) → List (Turn P) → Type 0
  AreAll lanes One turns = (lane : ℕ) → lane < lanes → One (turn_at turns lane)
