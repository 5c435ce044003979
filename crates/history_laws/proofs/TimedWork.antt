-- A tree of work with times: for each record from when until when it was done, as places in a history.
use Rattle.std.proofs.Common.{◌≡◌, ℕ, suc, ◌+◌, ◌≤◌, List, [], ◌∷◌, Some}
use Rattle.std.specs.Prelude.{slice_get}
use Rattle.sw_base.specs.declared.path.Step.{Step}
use Rattle.log_format.specs.declared.record.Record.{Record}
use Rattle.race_model.specs.Listing.{lane_of}
use Rattle.race_model.specs.History.{Entry, entry_of}
use Rattle.step_history.specs.History.{Name}
use Rattle.history_model.specs.Work.{Work, Rest, Put, Fork, Phases, NoPhase, Phase, TeamWork, NoWork, Beside}
use Rattle.history_laws.proofs.LabelledWork.{Marked, entry, records_at, regions_at}

mutual
  pub data TimedWork : Type 0 where
    TimedRest : TimedWork
    TimedPut : (r : Record) → (from until : ℕ) → (more : TimedWork) → TimedWork
    TimedFork : (line span from until : ℕ) → (phases : TimedPhases) → (more : TimedWork) → TimedWork

  pub data TimedPhases : Type 0 where
    TimedNone : TimedPhases
    TimedPhase : (team : TimedTeam) → (later : TimedPhases) → TimedPhases

  pub data TimedTeam : Type 0 where
    TimedEmpty : TimedTeam
    TimedBeside : (work : TimedWork) → (others : TimedTeam) → TimedTeam

-- the tree without its times
abbrev mutual
  pub plain : TimedWork → Work
  plain TimedRest = Rest
  plain (TimedPut r from until more) = Put r (plain more)
  plain (TimedFork line span from until phases more) = Fork line span (plain_phases phases) (plain more)

  pub plain_phases : TimedPhases → Phases
  plain_phases TimedNone = NoPhase
  plain_phases (TimedPhase team later) = Phase (plain_team team) (plain_phases later)

  pub plain_team : TimedTeam → TeamWork
  plain_team TimedEmpty = NoWork
  plain_team (TimedBeside work others) = Beside (plain work) (plain_team others)

module _ (history : List Marked) where
  -- all that the hand of this name records is of the task of this path
  abbrev pub IsHandOf : Name → List Step → Type 0
  IsHandOf name path = (n : ℕ) (x : Marked) → slice_get history n ≡ Some x → x.step.name ≡ name → (e : Entry) → x.label ≡ e ∷ [] → e.node.path ≡ path

  -- one deed, with its entry and by a hand of its task
  pub record StandsAt (e : Entry) (place : ℕ) : Type 0 where
    pub x : Marked
    pub found : slice_get history place ≡ Some x
    pub label : x.label ≡ e ∷ []
    pub hand : IsHandOf x.step.name e.node.path

  -- what was done in one step stands there, and what is no deed takes no time
  abbrev pub Happened : List Entry → ℕ → ℕ → Type 0
  Happened [] from until = from ≤ until
  Happened (e ∷ more) from until = (until ≡ suc from) × StandsAt e from

  -- the work is done in this time, with its records in their order, its phases in their order, and each lane within its phase
  abbrev mutual
    pub IsTimed : List Step → ℕ → ℕ → ℕ → ℕ → TimedWork → Type 0
    IsTimed path i g start end TimedRest = start ≤ end
    IsTimed path i g start end (TimedPut r from until more) =
        (later : ℕ) × (start ≤ from) × Happened (entry_of r.kind (entry path i r)) from until × (until ≤ later) × IsTimed path (i + 1) g later end more
    IsTimed path i g start end (TimedFork line span from until phases more) =
        (start ≤ from) × ArePhasesTimed path g span (λ lane. 0) (λ lane. 0) from until phases × IsTimed path (i + 1) (g + 1) until end more

    pub ArePhasesTimed : List Step → ℕ → ℕ → (ℕ → ℕ) → (ℕ → ℕ) → ℕ → ℕ → TimedPhases → Type 0
    ArePhasesTimed path g span put forked start end TimedNone = start ≤ end
    ArePhasesTimed path g span put forked start end (TimedPhase team later) =
        (met : ℕ) × IsTeamTimed path g span put forked 0 start met team
        × ArePhasesTimed path g span (λ lane. put lane + records_at lane (plain_team team)) (λ lane. forked lane + regions_at lane (plain_team team)) met end later

    pub IsTeamTimed : List Step → ℕ → ℕ → (ℕ → ℕ) → (ℕ → ℕ) → ℕ → ℕ → ℕ → TimedTeam → Type 0
    IsTeamTimed path g span put forked lane start end TimedEmpty = start ≤ end
    IsTeamTimed path g span put forked lane start end (TimedBeside work others) =
        IsTimed (lane_of path g lane span) (put lane) (forked lane) start end work × IsTeamTimed path g span put forked (suc lane) start end others

-- times for a tree
pub record Timing (history : List Marked) (path : List Step) (i g start end : ℕ) (work : Work) : Type 0 where
  pub tree : TimedWork
  pub plain_is : plain tree ≡ work
  pub timed : IsTimed history path i g start end tree

pub record PhasesTiming (history : List Marked) (path : List Step) (g span : ℕ) (put forked : ℕ → ℕ) (start end : ℕ) (phases : Phases) : Type 0 where
  pub tree : TimedPhases
  pub plain_is : plain_phases tree ≡ phases
  pub timed : ArePhasesTimed history path g span put forked start end tree

pub record TeamTiming (history : List Marked) (path : List Step) (g span : ℕ) (put forked : ℕ → ℕ) (lane start end : ℕ) (team : TeamWork) : Type 0 where
  pub tree : TimedTeam
  pub plain_is : plain_team tree ≡ team
  pub timed : IsTeamTimed history path g span put forked lane start end tree
