-- What a contract sees of the words, of the counters, and of what a thread uses them with.
use Rattle.std.specs.Prelude.{◌≡◌, ℕ, Bool, true, false, List, [], ◌∷◌}
use Rattle.atomic_table.specs.Seated.{TableId}
use Rattle.shared_words.specs.declared.view.View.{View}
use Rattle.shared_words.specs.Views.{split_number}

-- its table, whether it is there, and what it knows
pub record HandValue (V : Type 0) : Type 0 where
  pub table : TableId
  pub there : Bool
  pub view : V

module _ {V : Type 0} where
  abbrev pub is_there : List V → Bool
  is_there [] = false
  is_there (v ∷ vs) = true

  abbrev pub view_or : V → List V → V
  view_or nobody [] = nobody
  view_or nobody (v ∷ vs) = v

  -- at most one view, and that of a hand that isn't in the middle of a call
  abbrev pub AtMostOne : (V → Type 0) → List V → Type 0
  AtMostOne Rests [] = Unit {0}
  AtMostOne Rests (v ∷ []) = Rests v
  AtMostOne Rests (v ∷ w ∷ vs) = ⊥

  abbrev pub hand_with : TableId → V → HandValue V
  hand_with table view = record { table = table; there = true; view = view }

  -- the same hand with another view
  abbrev pub with_view : HandValue V → V → HandValue V
  with_view hand view = hand_with hand.table view

-- the hand is there, and was made with this table or split from a hand that belongs to it
pub record Belongs {V : Type 0} (hand : HandValue V) (table : TableId) : Type 0 where
  pub here : hand.table ≡ table
  pub there : hand.there ≡ true

-- the words: which table it is, and how many elements and mutexes it has
pub record WordsValue : Type 0 where
  pub table : TableId
  pub elements : ℕ
  pub locks : ℕ

-- the counters: which table it is, and how many there are
pub record ChunksValue : Type 0 where
  pub table : TableId
  pub loops : ℕ

-- the other hand was split from this one and not joined, holds no mutex, and all that were split from it are joined
pub record IsHome (hand other : HandValue View) : Type 0 where
  pub split : other.view.name ≡ split_number other.view.name ∷ hand.view.name
  pub holds_none : other.view.held ≡ []
  pub none_out : other.view.out ≡ []

-- the hand belongs to the table and holds no mutex
pub record IsFree (hand : HandValue View) (table : TableId) : Type 0 where
  pub belongs : Belongs hand table
  pub holds_none : hand.view.held ≡ []
