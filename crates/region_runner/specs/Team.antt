-- What the lanes of a team did: in one phase, and in all phases so far.
use Rattle.std.specs.Prelude.{◌≡◌, ℕ, zero, suc, List, [], ◌++◌}
use Rattle.shared_words.specs.declared.view.View.{View}
use Rattle.shared_words.specs.Handles.{HandValue, with_view}
use Rattle.history_model.specs.Work.{Work, Phases, TeamWork, NoWork, Beside}
use Rattle.history_model.specs.Sound.{IsSound, ArePhasesSound}
use Rattle.history_model.specs.Joined.{IsJoined, ArePhasesJoined}
use Rattle.kernel_syntax.specs.declared.syntax.Array.{Array}
use Rattle.lane_runner.specs.Forking.{after_phases}
use Rattle.lane_runner.specs.Going.{worked}
use Rattle.lane_runner.specs.Handed.{HandedEntry}
use Rattle.execution_model.specs.Elements.{element_word, layout_of}

-- the works of so many lanes, from this one on
abbrev pub team_of_works : ℕ → ℕ → (ℕ → Work) → TeamWork
team_of_works lane zero works = NoWork
team_of_works lane (suc count) works = Beside (works lane) (team_of_works (suc lane) count works)

-- A lane did this work in a phase, with this hand before and after it.
pub record DidWork (arrays : List Array) (old new : HandValue View) (work : Work) : Type 0 where
  pub hand : new ≡ with_view old (worked (element_word arrays) old.view work)
  pub sound : IsSound (layout_of arrays) work
  pub joined : IsJoined work

-- The lanes of a team did these phases, and all their hands are home with the one that they were split off.
pub record DidPhases (arrays : List Array) (span : ℕ) (old new : HandValue View) (phases : Phases) : Type 0 where
  pub sound : ArePhasesSound (layout_of arrays) span phases
  pub joined : ArePhasesJoined phases
  pub hand : new ≡ with_view old (after_phases (element_word arrays) span phases old.view)

-- what so many lanes hand on, from this one on
abbrev pub handed_by : (ℕ → List HandedEntry) → ℕ → ℕ → List HandedEntry
handed_by entries lane zero = []
handed_by entries lane (suc count) = entries lane ++ handed_by entries (suc lane) count
