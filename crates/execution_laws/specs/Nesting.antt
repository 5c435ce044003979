-- How deep the regions of a tree of work nest.
use Rattle.std.specs.Prelude.{ℕ, zero, suc, ◌≤◌}
use Rattle.history_model.specs.Work.{Work, Rest, Put, Fork, Phases, NoPhase, Phase, TeamWork, NoWork, Beside}

-- at most so many regions nest in the work, and each has a lane
abbrev mutual
  pub NestsWithin : ℕ → Work → Type 0
  NestsWithin d Rest = Unit {0}
  NestsWithin d (Put r more) = NestsWithin d more
  NestsWithin zero (Fork line span phases more) = ⊥
  NestsWithin (suc d) (Fork line span phases more) = (1 ≤ span) × PhasesNest d phases × NestsWithin (suc d) more

  pub PhasesNest : ℕ → Phases → Type 0
  PhasesNest d NoPhase = Unit {0}
  PhasesNest d (Phase team later) = TeamNests d team × PhasesNest d later

  pub TeamNests : ℕ → TeamWork → Type 0
  TeamNests d NoWork = Unit {0}
  TeamNests d (Beside work others) = NestsWithin d work × TeamNests d others
