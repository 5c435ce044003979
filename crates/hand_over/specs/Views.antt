-- What the desk and the places know, and how it changes.
use Rattle.std.specs.Prelude.{ℕ, Bool, true, false, ◌==◌, List, [], ◌∷◌, ◌++◌, length, replicate, slice_index_or, slice_set, Option, Some, None}
use Rattle.hand_over.specs.declared.view.Turn.{Turn}
use Rattle.hand_over.specs.declared.view.Turn.TheVariants.{Idle, Closed}
use Rattle.hand_over.specs.declared.view.View.{View}

-- the turn of a lane: one that isn't there is closed
abbrev pub turn_at : {P : Type 0} → List (Turn P) → ℕ → Turn P
turn_at turns lane = slice_index_or turns lane Closed

abbrev pub is_opened : Option ℕ → ℕ → Bool
is_opened None lane = false
is_opened (Some opened) lane = lane == opened

module _ {A P : Type 0} where
  -- the desk before any place is made
  abbrev pub first_view : A → View A P
  first_view about = record { about = about; is_desk = true; turns = []; opened = None; lane = 0; took = None; closed = false }

  -- the desk with so many lanes, none of which has a parcel out
  abbrev pub idle_view : A → ℕ → View A P
  idle_view about lanes = record { about = about; is_desk = true; turns = replicate lanes Idle; opened = None; lane = 0; took = None; closed = false }

  -- the place of the desk's next lane
  abbrev pub next_place : View A P → View A P
  next_place v = record { about = v.about; is_desk = false; turns = []; opened = None; lane = length v.turns; took = None; closed = false }

  -- the desk with one more lane
  abbrev pub with_lane : View A P → View A P
  with_lane v = record v { turns = v.turns ++ Idle ∷ [] }

  -- the desk holds the lane's slot
  abbrev pub opening_lane : View A P → ℕ → View A P
  opening_lane v lane = record v { opened = Some lane }

  -- the desk holds the slot of a lane whose parcel is back
  abbrev pub emptying_lane : View A P → ℕ → View A P
  emptying_lane v lane = record v { turns = slice_set v.turns lane Idle; opened = Some lane }

  -- the desk holds no slot, and this is the lane's turn
  abbrev pub with_turn_of : View A P → ℕ → Turn P → View A P
  with_turn_of v lane turn = record v { turns = slice_set v.turns lane turn; opened = None }
