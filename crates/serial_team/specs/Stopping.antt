-- A serial run that stops: the lanes that come later in the phase still go on to their barrier, their end or their stop, and the first stop
-- in the order of lanes is told. And one that would make more records than it may, which goes on no further.
use Rattle.std.specs.Prelude.{◌≡◌, ◌<◌, ◌≤◌, ◌+◌, ℕ, List, [], ◌∷◌, All, length, replicate, ℤ, pos, Bool, true, false, Option, Some, None, Result, Ok, Err}
use Rattle.log_format.specs.Limit.{record_limit, task_limit}
use Rattle.sw_base.specs.declared.path.Step.{Step}
use Rattle.log_format.specs.declared.record.Kind.TheVariants as kind
use Rattle.kernel_syntax.specs.declared.syntax.Array.{Array}
use Rattle.kernel_syntax.specs.Layout.{elements}
use Rattle.kernel_syntax.specs.Program.{Program}
use Rattle.kernel_syntax.specs.Tree.{TeamTree}
use Rattle.kernel_model.specs.Effect.{Halted}
use Rattle.kernel_model.specs.declared.stop.StopWhy.{StopWhy}
use Rattle.kernel_model.specs.declared.stop.StopWhy.TheVariants as reason
use Rattle.kernel_model.specs.State.{event}
use Rattle.history_model.specs.Work.{Work, Rest, Fork, Phases, NoPhase, Phase}
use Rattle.serial_run.specs.declared.halt.Halt.{Halt}
use Rattle.serial_run.specs.declared.halt.Halt.TheVariants as halt
use Rattle.serial_run.specs.Going.{SerialProgress, RanPart}
use Rattle.serial_run.specs.Placing.{OfRun, ElementLayout}
use Rattle.serial_run.specs.Stepping.{Stand, Advances, stand_left}
use Rattle.serial_team.specs.declared.member.Stage.{Stage}
use Rattle.serial_team.specs.declared.member.Stage.TheVariants as stage
use Rattle.serial_team.specs.declared.stop.Stop.{Stop}
use Rattle.serial_team.specs.declared.stop.Stop.TheVariants as stop
use Rattle.serial_team.specs.Members.{Pool, pool_at, MemberValue, later, path_in, BeginsLane, BeginTeam}
use Rattle.serial_team.specs.Running.{put_all, beside, past_region, LaneRuns, TeamRuns, PhasesRun}

-- which task stops, at which line, and why
pub record StopAt : Type 0 where
  pub path : List Step
  pub line : ℕ
  pub why : StopWhy

-- the task at this path would put its record of this number, from 1
pub record LongAt : Type 0 where
  pub path : List Step
  pub number : ℕ

mutual
  -- The task at this path did this work and stopped, or a lane of a region that it forked did, and others go on from these words. It also stops
  -- where too many tasks are below it.
  pub data LaneStops (layout : ElementLayout) : List Step → MemberValue → Work → Pool → StopAt → Type 0 where
    halts : (path : List Step) (x : MemberValue) (slots : List ℤ) (last : SerialProgress) (w : StopWhy) (line : ℕ)
        → (m : RanPart layout (stand_left x.stand) x.stand.slots slots x.stand.progress last (Halted w line))
        → LaneStops layout path x (put_all layout x.stand.progress.words m.added Rest) (record { words = last.words; left = last.left }) (record { path = path; line = line; why = w })
    in_region : (path : List Step) (x : MemberValue) (y : Stand) (team : TeamTree) (xs : List MemberValue) (p : Pool) (phases : Phases) (at : StopAt)
        → (a : Advances layout x.stand y (event kind.Region team.line 0 team.span ∷ []) (record { team = team; slots = y.slots } ∷ []))
        → length path < 4 → BeginTeam y.at.arrays team y.slots xs → PhasesStop layout path x.forked xs (pool_at y) phases p at
        → LaneStops layout path x (put_all layout x.stand.progress.words a.makes.plain (Fork team.line team.span phases Rest)) p at
    too_many : (path : List Step) (x : MemberValue) (y : Stand) (team : TeamTree) (xs ys : List MemberValue) (p : Pool) (phases : Phases)
        → (a : Advances layout x.stand y (event kind.Region team.line 0 team.span ∷ []) (record { team = team; slots = y.slots } ∷ []))
        → length path < 4 → BeginTeam y.at.arrays team y.slots xs → PhasesRun layout path x.forked xs (pool_at y) phases ys p
        → task_limit < length (past_region path x y ys p).below
        → LaneStops layout path x (put_all layout x.stand.progress.words a.makes.plain (Fork team.line team.span phases Rest)) p (record { path = path; line = team.line; why = reason.Tasks })
    onward : (path : List Step) (x : MemberValue) (y : Stand) (team : TeamTree) (xs ys : List MemberValue) (p q : Pool) (phases : Phases) (more : Work) (at : StopAt)
        → (a : Advances layout x.stand y (event kind.Region team.line 0 team.span ∷ []) (record { team = team; slots = y.slots } ∷ []))
        → length path < 4 → BeginTeam y.at.arrays team y.slots xs → PhasesRun layout path x.forked xs (pool_at y) phases ys p
        → length (past_region path x y ys p).below ≤ task_limit → LaneStops layout path (past_region path x y ys p) more q at
        → LaneStops layout path x (put_all layout x.stand.progress.words a.makes.plain (Fork team.line team.span phases more)) q at

  -- the lanes of the region of this number went on, one after another; this is the first stop, if any
  pub data TeamGoes (layout : ElementLayout) : List Step → ℕ → List MemberValue → Pool → List Work → Pool → Option StopAt → Type 0 where
    no_lane : (at : List Step) (number : ℕ) (p : Pool) → TeamGoes layout at number [] p [] p None
    runs : (at : List Step) (number : ℕ) (x y : MemberValue) (xs : List MemberValue) (p q : Pool) (work : Work) (works : List Work) (first : Option StopAt)
        → LaneRuns layout (path_in at number x) (later x p) work y → TeamGoes layout at number xs (pool_at y.stand) works q first
        → TeamGoes layout at number (x ∷ xs) p (work ∷ works) q first
    stops : (at : List Step) (number : ℕ) (x : MemberValue) (xs : List MemberValue) (p q r : Pool) (work : Work) (works : List Work) (first : StopAt) (others : Option StopAt)
        → LaneStops layout (path_in at number x) (later x p) work q first → TeamGoes layout at number xs q works r others
        → TeamGoes layout at number (x ∷ xs) p (work ∷ works) r (Some first)

  -- a lane stopped in the last of these phases, and all waited at a barrier after each phase before it
  pub data PhasesStop (layout : ElementLayout) : List Step → ℕ → List MemberValue → Pool → Phases → Pool → StopAt → Type 0 where
    here : (at : List Step) (number : ℕ) (xs : List MemberValue) (p q : Pool) (works : List Work) (first : StopAt)
        → TeamGoes layout at number xs p works q (Some first) → PhasesStop layout at number xs p (Phase (beside works) NoPhase) q first
    next : (at : List Step) (number : ℕ) (xs ys : List MemberValue) (p q r : Pool) (works : List Work) (phases : Phases) (first : StopAt)
        → TeamRuns layout at number xs p works ys q → All (λ (y : MemberValue). y.stage ≡ stage.Waits) ys → PhasesStop layout at number ys q phases r first
        → PhasesStop layout at number xs p (Phase (beside works) phases) r first

-- so that a task puts no more records than the whole run may still make
abbrev pub bounded : ElementLayout → ElementLayout
bounded layout = record layout { bound = OfRun }

mutual
  -- The run may make no record more, and the task at this path would put one, whose log has room for it; or a lane of a region that it forked would.
  pub data LaneLong (layout : ElementLayout) : List Step → MemberValue → LongAt → Type 0 where
    at_record : (path : List Step) (x : MemberValue) (slots : List ℤ) (last : SerialProgress) (line : ℕ)
        → RanPart (bounded layout) (stand_left x.stand) x.stand.slots slots x.stand.progress last (Halted reason.LogFull line) → last.left ≡ 0 → last.count < record_limit
        → LaneLong layout path x (record { path = path; number = last.count + 1 })
    in_lanes : (path : List Step) (x : MemberValue) (y : Stand) (team : TeamTree) (xs : List MemberValue) (long : LongAt)
        → Advances layout x.stand y (event kind.Region team.line 0 team.span ∷ []) (record { team = team; slots = y.slots } ∷ [])
        → length path < 4 → BeginTeam y.at.arrays team y.slots xs → PhasesLong layout path x.forked xs (pool_at y) long → LaneLong layout path x long
    past_lanes : (path : List Step) (x : MemberValue) (y : Stand) (team : TeamTree) (xs ys : List MemberValue) (p : Pool) (phases : Phases) (long : LongAt)
        → Advances layout x.stand y (event kind.Region team.line 0 team.span ∷ []) (record { team = team; slots = y.slots } ∷ [])
        → length path < 4 → BeginTeam y.at.arrays team y.slots xs → PhasesRun layout path x.forked xs (pool_at y) phases ys p
        → length (past_region path x y ys p).below ≤ task_limit → LaneLong layout path (past_region path x y ys p) long → LaneLong layout path x long

  -- a lane of the region of this number would, after the lanes before it ran or stopped
  pub data TeamLong (layout : ElementLayout) : List Step → ℕ → List MemberValue → Pool → LongAt → Type 0 where
    in_lane : (at : List Step) (number : ℕ) (x : MemberValue) (xs : List MemberValue) (p : Pool) (long : LongAt)
        → LaneLong layout (path_in at number x) (later x p) long → TeamLong layout at number (x ∷ xs) p long
    past_run : (at : List Step) (number : ℕ) (x y : MemberValue) (xs : List MemberValue) (p : Pool) (work : Work) (long : LongAt)
        → LaneRuns layout (path_in at number x) (later x p) work y → TeamLong layout at number xs (pool_at y.stand) long → TeamLong layout at number (x ∷ xs) p long
    past_stop : (at : List Step) (number : ℕ) (x : MemberValue) (xs : List MemberValue) (p q : Pool) (work : Work) (stopped : StopAt) (long : LongAt)
        → LaneStops layout (path_in at number x) (later x p) work q stopped → TeamLong layout at number xs q long → TeamLong layout at number (x ∷ xs) p long

  -- so in the last of these phases, and all waited at a barrier after each phase before it
  pub data PhasesLong (layout : ElementLayout) : List Step → ℕ → List MemberValue → Pool → LongAt → Type 0 where
    in_phase : (at : List Step) (number : ℕ) (xs : List MemberValue) (p : Pool) (long : LongAt) → TeamLong layout at number xs p long → PhasesLong layout at number xs p long
    past_phase : (at : List Step) (number : ℕ) (xs ys : List MemberValue) (p q : Pool) (works : List Work) (long : LongAt)
        → TeamRuns layout at number xs p works ys q → All (λ (y : MemberValue). y.stage ≡ stage.Waits) ys → PhasesLong layout at number ys q long
        → PhasesLong layout at number xs p long

-- ---- by what is answered

-- some work of it stopped so
pub record LaneStopped (layout : ElementLayout) (path : List Step) (x : MemberValue) (p : Pool) (at : StopAt) : Type 0 where
  pub work : Work
  pub stops : LaneStops layout path x work p at

pub record TeamWent (layout : ElementLayout) (at : List Step) (number : ℕ) (xs : List MemberValue) (p q : Pool) (first : Option StopAt) : Type 0 where
  pub works : List Work
  pub goes : TeamGoes layout at number xs p works q first

pub record PhasesStopped (layout : ElementLayout) (at : List Step) (number : ℕ) (xs : List MemberValue) (p q : Pool) (first : StopAt) : Type 0 where
  pub phases : Phases
  pub stops : PhasesStop layout at number xs p phases q first

-- what holds of a stop of a task, and of one record too many; nothing is said of want of memory
abbrev pub IfStopped : (StopAt → Type 0) → (LongAt → Type 0) → Stop → Type 0
IfStopped P Q (stop.Stopped path line w) = P (record { path = path; line = line; why = w })
IfStopped P Q (stop.Long path number) = Q (record { path = path; number = number })
IfStopped P Q stop.Memory = Unit {0}

abbrev pub is_stopped : Stop → Bool
is_stopped (stop.Stopped path line w) = true
is_stopped _ = false

-- what a task's own halt is told as, whose log has so many records
abbrev pub TellsHalt : List Step → ℕ → Halt → Stop → Type 0
TellsHalt path count (halt.Stops why line) e = e ≡ stop.Stopped path line why
TellsHalt path count halt.Long e = count < record_limit → e ≡ stop.Long path (count + 1)
TellsHalt path count halt.Refused e = e ≡ stop.Memory
TellsHalt path count halt.Memory e = e ≡ stop.Memory

-- the region of a task stopped, from these locals
pub record RegionStopped (layout : ElementLayout) (arrays : List Array) (team : TeamTree) (slots : List ℤ) (at : List Step) (number : ℕ) (p q : Pool) (first : StopAt) : Type 0 where
  pub before : List MemberValue
  pub begin : BeginTeam arrays team slots before
  pub stopped : PhasesStopped layout at number before p q first

-- a task that has put the record of a region stopped there, wherever it stood before the record
abbrev pub StopsBelow : ElementLayout → List Step → TeamTree → MemberValue → Pool → StopAt → Type 0
StopsBelow layout path team x p first =
    (w : Stand) → Advances layout w x.stand (event kind.Region team.line 0 team.span ∷ []) (record { team = team; slots = x.stand.slots } ∷ [])
    → LaneStopped layout path (record x { stand = w }) p first

-- so one of whose region a lane would put a record too many
abbrev pub LongBelow : ElementLayout → List Step → TeamTree → MemberValue → LongAt → Type 0
LongBelow layout path team x long =
    (w : Stand) → Advances layout w x.stand (event kind.Region team.line 0 team.span ∷ []) (record { team = team; slots = x.stand.slots } ∷ [])
    → LaneLong layout path (record x { stand = w }) long

-- the region of a task comes to one record too many, from these locals
pub record RegionLong (layout : ElementLayout) (arrays : List Array) (team : TeamTree) (slots : List ℤ) (at : List Step) (number : ℕ) (p : Pool) (long : LongAt) : Type 0 where
  pub before : List MemberValue
  pub begin : BeginTeam arrays team slots before
  pub runs_out : PhasesLong layout at number before p long

-- The root of a kernel stopped, or a task below it, over words that were 0, with room for so many records in all.
pub record RootStopped (layout : ElementLayout) (program : Program) (left : ℕ) (first : StopAt) : Type 0 where
  pub before : MemberValue
  pub begins : BeginsLane program.arrays program.main (replicate program.slots (pos 0)) 0 before
  pub after : Pool
  pub stopped : LaneStopped layout [] (later before (record { words = replicate (elements program.arrays) 0; left = left })) after first

-- The root of a kernel, or a task below it, would put one record more than so many, over words that were 0.
pub record RootLong (layout : ElementLayout) (program : Program) (left : ℕ) (long : LongAt) : Type 0 where
  pub before : MemberValue
  pub begins : BeginsLane program.arrays program.main (replicate program.slots (pos 0)) 0 before
  pub runs_out : LaneLong layout [] (later before (record { words = replicate (elements program.arrays) 0; left = left })) long

-- a task that goes on from there stops as it does from the first on, or comes to one record too many
pub record StopsFrom (layout : ElementLayout) (path : List Step) (x y : MemberValue) : Type 0 where
  pub stops : (p : Pool) (first : StopAt) → LaneStopped layout path y p first → LaneStopped layout path x p first
  pub runs_out : (long : LongAt) → LaneLong layout path y long → LaneLong layout path x long

-- by where it stands still, if it does
abbrev pub StopsPast : ElementLayout → List Step → MemberValue → MemberValue → Option Stage → Type 0
StopsPast layout path x y None = StopsFrom layout path x y
StopsPast layout path x y (Some at) = Unit {0}

-- the stop that was told earlier, or else this one
abbrev pub told_first : Result (Unit {0}) Stop → Stop → Result (Unit {0}) Stop
told_first (Ok _) e = Err e
told_first (Err earlier) e = Err earlier
