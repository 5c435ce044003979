-- Where the log and the block are: at home, or with the writer.
use Rattle.std.specs.Prelude.{◌≡◌, ◌<◌, [], length, Option, Some, None}
use Rattle.hand_over.specs.declared.view.Turn.{Turn}
use Rattle.hand_over.specs.declared.view.Turn.TheVariants.{Idle, Out, Closed}
use Rattle.flush_writer.specs.Held.{Held}

-- what may be sent to the writer
pub record CanBeSent (h : Held) : Type 0 where
  pub unrefused : h.refused ≡ None
  pub some : 0 < length h.pending

-- a log that is nowhere
abbrev pub nowhere : Held
nowhere = record { dir = []; path = []; text = None; faults = 0; size = 0; pending = []; refused = None }

abbrev pub sent_by : Turn Held → Held
sent_by (Out h) = h
sent_by Idle = nowhere
sent_by Closed = nowhere

-- what the lane knows: what is at home, else what it sent
abbrev pub held : Option Held → Option (Turn Held) → Held
held (Some h) turn = h
held None (Some turn) = sent_by turn
held None None = nowhere

-- no writer has anything
abbrev pub IsIdle : Option (Turn Held) → Type 0
IsIdle turn = (t : Turn Held) → turn ≡ Some t → t ≡ Idle

-- it is at home and no writer has anything, or the writer has it
pub record IsKept (home : Option Held) (turn : Option (Turn Held)) : Type 0 where
  pub idle : (h : Held) → home ≡ Some h → IsIdle turn
  pub away : home ≡ None → (h : Held) × (turn ≡ Some (Out h)) × CanBeSent h
