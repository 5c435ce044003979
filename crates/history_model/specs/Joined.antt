-- A task goes on after a region only once all lanes of the region have ended.
use Rattle.std.specs.Prelude.{◌≡◌, ◌⊎◌, List, [], ◌∷◌, ◌++◌}
use Rattle.log_format.specs.declared.record.Record.{Record}
use Rattle.log_format.specs.declared.record.Kind.TheVariants.{End}
use Rattle.history_model.specs.Work.{Work, Rest, Put, Fork, Phases, NoPhase, Phase, TeamWork, NoWork, Beside, work_records}

-- the last of these records is an End
pub record LastIsEnd (records : List Record) : Type 0 where
  pub prefix : List Record
  pub last : Record
  pub parts : records ≡ prefix ++ last ∷ []
  pub ends : last.kind ≡ End

abbrev pub TeamEnds : TeamWork → Type 0
TeamEnds NoWork = Unit {0}
TeamEnds (Beside work others) = LastIsEnd (work_records work) × TeamEnds others

-- each lane ends in the last phase
abbrev pub PhasesEnd : Phases → Type 0
PhasesEnd NoPhase = ⊥
PhasesEnd (Phase team NoPhase) = TeamEnds team
PhasesEnd (Phase team (Phase next later)) = PhasesEnd (Phase next later)

abbrev mutual
  pub IsJoined : Work → Type 0
  IsJoined Rest = Unit {0}
  IsJoined (Put r more) = IsJoined more
  IsJoined (Fork line span phases more) = ((more ≡ Rest) ⊎ PhasesEnd phases) × ArePhasesJoined phases × IsJoined more

  pub ArePhasesJoined : Phases → Type 0
  ArePhasesJoined NoPhase = Unit {0}
  ArePhasesJoined (Phase team later) = IsTeamJoined team × ArePhasesJoined later

  pub IsTeamJoined : TeamWork → Type 0
  IsTeamJoined NoWork = Unit {0}
  IsTeamJoined (Beside work others) = IsJoined work × IsTeamJoined others
