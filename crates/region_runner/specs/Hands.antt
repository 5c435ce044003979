-- The hands of a team: split off for a phase, lane by lane, and joined after it in the same order.
use Rattle.std.specs.Prelude.{◌≡◌, ℕ, zero, suc, ◌+◌, List, [], ◌∷◌}
use Rattle.atomic_table.specs.Seated.{TableId}
use Rattle.step_history.specs.History.{Name}
use Rattle.shared_words.specs.declared.view.View.{View}
use Rattle.shared_words.specs.Handles.{HandValue, Belongs, with_view}
use Rattle.shared_words.specs.Views.{newcomer, parted, split_number, after_meeting}
use Rattle.history_model.specs.Work.{TeamWork, NoWork, Beside}
use Rattle.lane_runner.specs.Going.{worked}

-- the hand that a hand splits off for a lane of a team, where it splits one off for each
abbrev pub lane_hand : HandValue View → ℕ → HandValue View
lane_hand hand lane = with_view hand (newcomer ((hand.view.splits + lane) ∷ hand.view.name))

-- the hand was split off that of this name, holds no mutex, and has none out
pub record IsLaneHand (table : TableId) (name : Name) (hand : HandValue View) : Type 0 where
  pub belongs : Belongs hand table
  pub split : hand.view.name ≡ split_number hand.view.name ∷ name
  pub holds_none : hand.view.held ≡ []
  pub none_out : hand.view.out ≡ []

-- a hand's view once it split off hands for so many lanes, from this one on
abbrev pub parted_for : ℕ → ℕ → ℕ → View → View
parted_for lane span zero v = v
parted_for lane span (suc count) v = parted_for (suc lane) span count (parted v lane span)

-- and once these hands were joined to it, one after another
abbrev pub joined_with : List View → View → View
joined_with [] v = v
joined_with (w ∷ ws) v = joined_with ws (after_meeting v w)

-- these are the hands that were split off from this number on, each after its lane's work
abbrev pub HaveWorked : (ℕ → ℕ) → Name → ℕ → TeamWork → List View → Type 0
HaveWorked word name k NoWork [] = Unit {0}
HaveWorked word name k (Beside work others) (w ∷ ws) = (w ≡ worked word (newcomer (k ∷ name)) work) × HaveWorked word name (suc k) others ws
HaveWorked word name k _ _ = ⊥
