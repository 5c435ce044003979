-- Where a lane's parcel is, and what its word, its slot, the desk and the place say of it.
use Rattle.std.specs.Prelude.{ℕ, Bool, true, false, Option, Some, None}
use mathlib.Core.Option as maybe
use Rattle.hand_over.specs.declared.view.Turn.{Turn}
use Rattle.hand_over.specs.declared.view.Turn.TheVariants.{Idle, Out, Closed}

-- no parcel is out, and the desk may hold the slot; one was sent; the place took it; another is back; the lane is closed
pub data Stage (P : Type 0) : Type 0 where
  Resting : Stage P
  Filling : Stage P
  Sent : P → Stage P
  Taken : P → Stage P
  Back : P → P → Stage P
  Ended : Stage P

module _ {P : Type 0} where
  -- 0 where it is the desk's turn, 1 where it is the place's, 2 where there are no more turns
  abbrev pub word_of : Stage P → ℕ
  word_of Resting = 0
  word_of Filling = 0
  word_of (Sent p) = 1
  word_of (Taken p) = 1
  word_of (Back p q) = 0
  word_of Ended = 2

  -- what the slot has, if it is at home
  abbrev pub home_of : Stage P → maybe.Option (Option P)
  home_of Resting = maybe.some None
  home_of Filling = maybe.none
  home_of (Sent p) = maybe.some (Some p)
  home_of (Taken p) = maybe.none
  home_of (Back p q) = maybe.some (Some q)
  home_of Ended = maybe.some None

  abbrev pub turn_of : Stage P → Turn P
  turn_of Resting = Idle
  turn_of Filling = Idle
  turn_of (Sent p) = Out p
  turn_of (Taken p) = Out p
  turn_of (Back p q) = Out p
  turn_of Ended = Closed

  abbrev pub took_of : Stage P → Option P
  took_of Resting = None
  took_of Filling = None
  took_of (Sent p) = None
  took_of (Taken p) = Some p
  took_of (Back p q) = None
  took_of Ended = None

  abbrev pub is_filling : Stage P → Bool
  is_filling Resting = false
  is_filling Filling = true
  is_filling (Sent p) = false
  is_filling (Taken p) = false
  is_filling (Back p q) = false
  is_filling Ended = false

  -- what is sent fits, and what is back follows what was sent
  abbrev pub IsSound : {A : Type 0} → (A → P → Type 0) → (A → P → P → Type 0) → A → Stage P → Type 0
  IsSound fits follows about Resting = Unit {0}
  IsSound fits follows about Filling = Unit {0}
  IsSound fits follows about (Sent p) = fits about p
  IsSound fits follows about (Taken p) = Unit {0}
  IsSound fits follows about (Back p q) = follows about p q
  IsSound fits follows about Ended = Unit {0}
