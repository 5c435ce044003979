-- What a task did, as a tree: the records that it put, a Read with the whole word that was loaded, and the regions that it forked, with
-- what each lane did in each phase.
use Rattle.std.specs.Prelude.{ℕ, zero, suc, ◌==◌, if◌then◌else◌, List, [], ◌∷◌, ◌++◌, Option, Some, None, slice_get}
use Rattle.std.specs.List.{flat_map}
use Rattle.sw_base.specs.declared.path.Step.{Step}
use Rattle.log_format.specs.declared.record.Record.{Record}
use Rattle.log_format.specs.declared.record.Kind.{Kind}
use Rattle.log_format.specs.declared.record.Kind.TheVariants.{Read, Region}
use Rattle.log_format.specs.Fitting.{fit}
use Rattle.race_model.specs.Trace.{Logs}

-- A task rests, or puts a record and goes on, or forks a region and then goes on. A region has phases, with a barrier after
-- each but the last, and each phase has the lanes of the team.
mutual
  pub data Work : Type 0 where
    Rest : Work
    Put : (r : Record) → (more : Work) → Work
    Fork : (line span : ℕ) → (phases : Phases) → (more : Work) → Work

  pub data Phases : Type 0 where
    NoPhase : Phases
    Phase : (team : TeamWork) → (later : Phases) → Phases

  pub data TeamWork : Type 0 where
    NoWork : TeamWork
    Beside : (work : Work) → (others : TeamWork) → TeamWork

-- the record of a fork
abbrev pub fork_record : ℕ → ℕ → Record
fork_record line span = record { kind = Region; size = 0; site = 0; line = line; addr = 0; value = span }

-- The value of a record in a log: a task reads a whole word, and its log tells the value of the element there.
abbrev pub logged_value : Kind → Record → ℕ
logged_value Read r = fit r.value r.size
logged_value _ r = r.value

abbrev pub logged : Record → Record
logged r = record r { value = logged_value r.kind r }

-- the records of the task itself, as its log tells them
abbrev pub work_records : Work → List Record
work_records Rest = []
work_records (Put r more) = logged r ∷ work_records more
work_records (Fork line span phases more) = fork_record line span ∷ work_records more

-- a region that was forked: its span, and what its lanes did
pub record RegionWork : Type 0 where
  pub span : ℕ
  pub phases : Phases

abbrev pub work_regions : Work → List RegionWork
work_regions Rest = []
work_regions (Put r more) = work_regions more
work_regions (Fork line span phases more) = record { span = span; phases = phases } ∷ work_regions more

-- the work of a lane in one phase, if the team has the lane
abbrev pub work_at : ℕ → TeamWork → List Work
work_at lane NoWork = []
work_at zero (Beside work others) = work ∷ []
work_at (suc lane) (Beside work others) = work_at lane others

-- the works of a lane, phase by phase
abbrev pub lane_works : ℕ → Phases → List Work
lane_works lane NoPhase = []
lane_works lane (Phase team later) = work_at lane team ++ lane_works lane later

-- the works of the lane that a step names, among the regions of its parent
abbrev pub works_at_region : Step → Option RegionWork → List Work
works_at_region step None = []
works_at_region step (Some region) = if region.span == step.span then lane_works step.lane region.phases else []

abbrev pub works_at_step : Step → List Work → List Work
works_at_step step works = works_at_region step (slice_get (flat_map work_regions works) step.region)

-- the works of the task at this path under a task with these works
abbrev pub works_under : List Work → List Step → List Work
works_under works [] = works
works_under works (step ∷ path) = works_under (works_at_step step works) path

-- the works of a task, phase by phase, in the tree of this root
abbrev pub works_of : Work → List Step → List Work
works_of root path = works_under (root ∷ []) path

-- the logs of the tree: what each task put, phase after phase
abbrev pub task_logs : Work → Logs
task_logs root path = flat_map work_records (works_of root path)

-- one work after another
abbrev pub then_work : Work → Work → Work
then_work Rest other = other
then_work (Put r more) other = Put r (then_work more other)
then_work (Fork line span phases more) other = Fork line span phases (then_work more other)

-- phases after others
abbrev pub then_phases : Phases → Phases → Phases
then_phases NoPhase later = later
then_phases (Phase team more) later = Phase team (then_phases more later)

-- how many phases there are
abbrev pub phase_count : Phases → ℕ
phase_count NoPhase = 0
phase_count (Phase team later) = suc (phase_count later)

-- what the lanes of the last phase do after it, as the End of a log that is put when all hands are home
abbrev pub end_team : (ℕ → Work) → ℕ → TeamWork → TeamWork
end_team last lane NoWork = NoWork
end_team last lane (Beside work others) = Beside (then_work work (last lane)) (end_team last (suc lane) others)

abbrev pub end_phases : (ℕ → Work) → Phases → Phases
end_phases last NoPhase = NoPhase
end_phases last (Phase team NoPhase) = Phase (end_team last 0 team) NoPhase
end_phases last (Phase team (Phase next later)) = Phase team (end_phases last (Phase next later))
