-- A history of shared words and mutexes: all steps of all hands in one order, each of which fits those before it
-- (sequential consistency: Lamport 1979; critical sections and teams: OpenMP 5.2).
use Rattle.std.specs.Prelude.{◌≡◌, ℕ, ◌+◌, ◌%◌, ◌^◌, ◌<◌, Bool, true, false, not, ◌==◌, ◌&&◌, if◌then◌else◌, List, [], ◌∷◌, ◌++◌, length, filter, slice_index, Option, Some, None}
use Rattle.std.specs.List.{list_any}
use lib.Pointwise.{pointwise}
use Rattle.step_history.specs.declared.item.Item.{Item}
use Rattle.step_history.specs.declared.item.Deed.{Deed}
use Rattle.step_history.specs.declared.item.Deed.TheVariants.{Read, Write, Lock, Unlock, Split, Home, Update}

-- whose step it is: the first hand has the name [], and the hand of the split k of the hand p has the name k ∷ p
abbrev pub Name : Type 0
Name = List ℕ

abbrev pub name_eq : Name → Name → Bool
name_eq = pointwise (λ (j k : ℕ). j == k)

abbrev pub item : Name → Deed → Item
item name deed = record { name = name; deed = deed }

-- what the hand of that name did, in order
abbrev pub of : Name → List Item → List Item
of name items = filter (λ (x : Item). name_eq x.name name) items

-- the value of the word after a deed
abbrev pub value_after : ℕ → Deed → ℕ → ℕ
value_after word (Write w x) value = if w == word then x else value
value_after word (Update w d) value = if w == word then (value + d) % 2 ^ 64 else value
value_after word _ value = value

abbrev pub value_from : ℕ → List Item → ℕ → ℕ
value_from word [] value = value
value_from word (x ∷ xs) value = value_from word xs (value_after word x.deed value)

-- the value of the last write of the word, else 0, and all that was added since
abbrev pub value_at : ℕ → List Item → ℕ
value_at word items = value_from word items 0

-- who holds the mutex after a deed of the hand of that name
abbrev pub holder_after : ℕ → Name → Deed → Option Name → Option Name
holder_after mutex name (Lock m) owner = if m == mutex then Some name else owner
holder_after mutex name (Unlock m) owner = if m == mutex then None else owner
holder_after mutex name _ owner = owner

abbrev pub holder_from : ℕ → List Item → Option Name → Option Name
holder_from mutex [] owner = owner
holder_from mutex (x ∷ xs) owner = holder_from mutex xs (holder_after mutex x.name x.deed owner)

-- who holds the mutex, if anyone does
abbrev pub holder : ℕ → List Item → Option Name
holder mutex items = holder_from mutex items None

abbrev pub is_split : ℕ → Deed → Bool
is_split number (Split k lane span) = k == number
is_split number _ = false

abbrev pub is_home : ℕ → Deed → Bool
is_home number (Home k) = k == number
is_home number _ = false

-- the hand p has split off the hand k ∷ p
abbrev pub was_split : Name → ℕ → List Item → Bool
was_split p k items = list_any (λ (x : Item). name_eq x.name p && is_split k x.deed) items

-- the hand k ∷ p was joined to p
abbrev pub came_home : Name → ℕ → List Item → Bool
came_home p k items = list_any (λ (x : Item). name_eq x.name p && is_home k x.deed) items

-- the hand of that name is the first one, or was split off and isn't joined
abbrev pub is_out : Name → List Item → Bool
is_out [] items = true
is_out (k ∷ p) items = was_split p k items && not (came_home p k items)

-- the deed fits what was done before: a read finds the last value, a mutex is won while nobody holds it and given back
-- by its holder, and the hand that comes home is out
abbrev pub FitsDeed : List Item → Name → Deed → Type 0
FitsDeed before name (Read w x) = x ≡ value_at w before
FitsDeed before name (Write w x) = Unit {0}
FitsDeed before name (Lock m) = holder m before ≡ None
FitsDeed before name (Unlock m) = holder m before ≡ Some name
FitsDeed before name (Split k lane span) = Unit {0}
FitsDeed before name (Home k) = is_out (k ∷ name) before ≡ true
FitsDeed before name (Update w d) = Unit {0}

-- the step fits those before it
pub record Fits (before : List Item) (x : Item) : Type 0 where
  pub out : is_out x.name before ≡ true
  pub fits : FitsDeed before x.name x.deed

-- each step fits those before it
abbrev pub LegalAfter : List Item → List Item → Type 0
LegalAfter before [] = Unit {0}
LegalAfter before (x ∷ xs) = Fits before x × LegalAfter (before ++ x ∷ []) xs

abbrev pub Legal : List Item → Type 0
Legal log = LegalAfter [] log

-- the items have one legal history, each hand's in their order, which ends in these values of the words
pub record HasHistory (items : List Item) (words : List ℕ) : Type 0 where
  pub log : List Item
  pub legal : Legal log
  pub whole : (name : Name) → of name log ≡ of name items
  pub ends : (word : ℕ) → word < length words → slice_index words word ≡ value_at word log
