-- The rule of the words, which each step keeps: there is a history of all that was done, which no clause fixes,
-- and each name sits with one seat, whose view tells what was done under it.
use Rattle.std.specs.Prelude.{◌≡◌, ℕ, ◌+◌, ◌<◌, ◌≤◌, true, false, ◌==◌, if◌then◌else◌, List, [], ◌∷◌, length, Contains, slice_index, Option, Some, None}
use mathlib.Core.Option.{some}
use lib.ListN.{get_elem?}
use Rattle.atomic_table.specs.Table.{State}
use Rattle.step_history.specs.declared.item.Item.{Item}
use Rattle.step_history.specs.History.{Name, of, value_at, holder, was_split, came_home, is_out, Legal}
use Rattle.shared_words.specs.declared.view.View.{View}

-- the number of a word: those of the mutexes come first, then one that is free, then the elements
abbrev pub MUTEXES : ℕ
MUTEXES = 64

abbrev pub FREE : ℕ
FREE = 64

abbrev pub ELEMENTS : ℕ
ELEMENTS = 65

-- the word of a mutex is 1 while it is held
abbrev pub mutex_word : Option Name → ℕ
mutex_word None = 0
mutex_word (Some name) = 1

abbrev pub Once : List ℕ → Type 0
Once [] = Unit {0}
Once (k ∷ ks) = (Contains ks k → ⊥) × Once ks

-- the hand of that name is live, and this holds of its view
pub record HasLive (seat : Name → ℕ) (views : List View) (name : Name) (P : View → Type 0) : Type 0 where
  pub view : View
  pub there : get_elem? views (seat name) ≡ some view
  pub live : view.live ≡ true
  pub named : view.name ≡ name
  pub has : P view

-- the hand p has split off the hand k ∷ p, which isn't joined
abbrev pub HasOut : (Name → ℕ) → List View → ℕ → Name → Type 0
HasOut seat views k p = HasLive seat views p (λ (v : View). Contains v.out k)

-- the hand of that name holds the mutex
abbrev pub HasHeld : (Name → ℕ) → List View → ℕ → Name → Type 0
HasHeld seat views mutex name = HasLive seat views name (λ (v : View). Contains v.held mutex)

-- the view of a live hand, in this seat
pub record Lives (log : List Item) (seat : Name → ℕ) (views : List View) (id : ℕ) (v : View) : Type 0 where
  pub sits : seat v.name ≡ id
  pub out : is_out v.name log ≡ true
  pub fresh : (k : ℕ) → v.splits ≤ k → (was_split v.name k log ≡ false) × (came_home v.name k log ≡ false)
  pub holds : (mutex : ℕ) → Contains v.held mutex → holder mutex log ≡ Some v.name
  pub once : Once v.held
  pub parent : (k : ℕ) (p : Name) → v.name ≡ k ∷ p → HasOut seat views k p

-- the view in this seat has what was done under the names that sit here, and nothing else
pub record Sits (log : List Item) (seat : Name → ℕ) (views : List View) (id : ℕ) (v : View) : Type 0 where
  pub shown : (name : Name) → of name v.items ≡ (if seat name == id then of name log else [])
  pub lives : v.live ≡ true → Lives log seat views id v
  pub rests : v.live ≡ false → v.items ≡ []

-- the rule, for this history and these seats
pub record Explains (elements : ℕ) (log : List Item) (seat : Name → ℕ) (words : List ℕ) (views : List View) : Type 0 where
  pub wide : length words ≡ ELEMENTS + elements
  pub legal : Legal log
  pub values : (word : ℕ) → word < elements → slice_index words (ELEMENTS + word) ≡ value_at word log
  pub mutexes : (mutex : ℕ) → mutex < MUTEXES → slice_index words mutex ≡ mutex_word (holder mutex log)
  pub owners : (mutex : ℕ) (name : Name) → holder mutex log ≡ Some name → HasHeld seat views mutex name
  pub unborn : (k : ℕ) (p : Name) → was_split p k log ≡ false → of (k ∷ p) log ≡ []
  pub seated : (name : Name) → seat name < length views
  pub each : (id : ℕ) (v : View) → get_elem? views id ≡ some v → Sits log seat views id v

pub record Kept (elements : ℕ) (s : State (Unit {0}) View) : Type 0 where
  pub log : List Item
  pub seat : Name → ℕ
  pub keeps : Explains elements log seat s.words s.views
