-- A serial run. A task goes on to its next barrier or its end, and a region that it forks runs before it goes on. In a phase the lanes of
-- a team go on one after another, and the next phase begins once all have.
use Rattle.std.specs.Prelude.{◌≡◌, ℕ, ◌+◌, List, [], ◌∷◌, ◌++◌, ◌<◌, ◌≤◌, All, length, slice_index, replicate, ℤ, pos, Option, Some, None}
use Rattle.std.specs.List.{flat_map}
use Rattle.log_format.specs.Limit.{task_limit}
use Rattle.sw_base.specs.declared.path.Step.{Step}
use Rattle.log_format.specs.declared.record.Record.{Record}
use Rattle.log_format.specs.declared.record.Kind.{Kind}
use Rattle.log_format.specs.declared.record.Kind.TheVariants as kind
use Rattle.kernel_syntax.specs.declared.syntax.Array.{Array}
use Rattle.kernel_syntax.specs.Layout.{elements}
use Rattle.kernel_syntax.specs.Program.{Program}
use Rattle.kernel_syntax.specs.Tree.{TeamTree}
use Rattle.kernel_model.specs.State.{event}
use Rattle.history_model.specs.Work.{Work, Rest, Put, Fork, Phases, NoPhase, Phase, TeamWork, NoWork, Beside}
use Rattle.serial_run.specs.Going.{words_after}
use Rattle.serial_run.specs.Placing.{ElementLayout}
use Rattle.serial_run.specs.Stepping.{Stand, Advances, Finishes}
use Rattle.serial_team.specs.declared.member.Stage.{Stage}
use Rattle.serial_team.specs.declared.member.Stage.TheVariants as stage
use Rattle.serial_team.specs.Members.{Pool, pool_at, WholeLog, MemberValue, later, idle, path_in, logs_at, logs_of_member, BeginsLane, BeginTeam}

-- a Read has the whole word, as a work has it
abbrev pub whole_value : ElementLayout → Kind → Record → List ℕ → ℕ
whole_value layout kind.Read r words = slice_index words (layout.words.word r.addr)
whole_value layout _ r words = r.value

-- these records are put, one after another, from these words on, and then this is done
abbrev pub put_all : ElementLayout → List ℕ → List Record → Work → Work
put_all layout words [] more = more
put_all layout words (r ∷ rs) more = Put (record r { value = whole_value layout r.kind r words }) (put_all layout (words_after layout r.kind r words) rs more)

abbrev pub beside : List Work → TeamWork
beside [] = NoWork
beside (work ∷ works) = Beside work (beside works)

-- a lane that stands there after the record of a region, once the region has run and its lanes stand so
abbrev pub past_region : List Step → MemberValue → Stand → List MemberValue → Pool → MemberValue
past_region path x y ys p = later (record x { stand = y; forked = x.forked + 1; below = x.below ++ flat_map (logs_of_member path x.forked) ys }) p

mutual
  -- the task at this path did this work, and stands at its next barrier or at its end
  pub data LaneRuns (layout : ElementLayout) : List Step → MemberValue → Work → MemberValue → Type 0 where
    waits : (path : List Step) (x : MemberValue) (y : Stand) (line : ℕ) → (a : Advances layout x.stand y (event kind.Barrier line 0 0 ∷ []) [])
        → LaneRuns layout path x (put_all layout x.stand.progress.words a.makes.added Rest) (record x { stand = y; stage = stage.Waits })
    ends : (path : List Step) (x : MemberValue) (y : Stand) → (f : Finishes layout x.stand y)
        → LaneRuns layout path x (put_all layout x.stand.progress.words f.makes.added Rest) (record x { stand = y; stage = stage.Ended })
    forks : (path : List Step) (x z : MemberValue) (y : Stand) (team : TeamTree) (xs ys : List MemberValue) (p : Pool) (phases : Phases) (more : Work)
        → (a : Advances layout x.stand y (event kind.Region team.line 0 team.span ∷ []) (record { team = team; slots = y.slots } ∷ []))
        → length path < 4 → BeginTeam y.at.arrays team y.slots xs → PhasesRun layout path x.forked xs (pool_at y) phases ys p
        → length (past_region path x y ys p).below ≤ task_limit → LaneRuns layout path (past_region path x y ys p) more z
        → LaneRuns layout path x (put_all layout x.stand.progress.words a.makes.plain (Fork team.line team.span phases more)) z

  -- the lanes of the region of this number did these works, one after another
  pub data TeamRuns (layout : ElementLayout) : List Step → ℕ → List MemberValue → Pool → List Work → List MemberValue → Pool → Type 0 where
    no_lane : (at : List Step) (number : ℕ) (p : Pool) → TeamRuns layout at number [] p [] [] p
    lane : (at : List Step) (number : ℕ) (x y : MemberValue) (xs ys : List MemberValue) (p q : Pool) (work : Work) (works : List Work)
        → LaneRuns layout (path_in at number x) (later x p) work y → TeamRuns layout at number xs (pool_at y.stand) works ys q
        → TeamRuns layout at number (x ∷ xs) p (work ∷ works) (idle y ∷ ys) q

  -- so in these phases: after each but the last all wait at a barrier, and after the last all have ended
  pub data PhasesRun (layout : ElementLayout) : List Step → ℕ → List MemberValue → Pool → Phases → List MemberValue → Pool → Type 0 where
    last : (at : List Step) (number : ℕ) (xs ys : List MemberValue) (p q : Pool) (works : List Work)
        → TeamRuns layout at number xs p works ys q → All (λ (y : MemberValue). y.stage ≡ stage.Ended) ys
        → PhasesRun layout at number xs p (Phase (beside works) NoPhase) ys q
    next : (at : List Step) (number : ℕ) (xs ys zs : List MemberValue) (p q r : Pool) (works : List Work) (phases : Phases)
        → TeamRuns layout at number xs p works ys q → All (λ (y : MemberValue). y.stage ≡ stage.Waits) ys → PhasesRun layout at number ys q phases zs r
        → PhasesRun layout at number xs p (Phase (beside works) phases) zs r

-- the task did some work, and stands there
pub record RanTo (layout : ElementLayout) (path : List Step) (x y : MemberValue) : Type 0 where
  pub work : Work
  pub runs : LaneRuns layout path x work y

-- it went on to there, and does from the first on what it does from there
pub record GoesFrom (layout : ElementLayout) (path : List Step) (x y : MemberValue) : Type 0 where
  pub at : y.stand.at ≡ x.stand.at
  pub then' : (z : MemberValue) → RanTo layout path y z → RanTo layout path x z

-- by where it stands still, if it does
abbrev pub GoesTo : ElementLayout → List Step → MemberValue → MemberValue → Option Stage → Type 0
GoesTo layout path x y None = GoesFrom layout path x y
GoesTo layout path x y (Some at) = RanTo layout path x (record y { stage = at })

-- these lanes have the elements of these arrays
abbrev pub HaveArrays : List Array → List MemberValue → Type 0
HaveArrays arrays xs = All (λ (x : MemberValue). x.stand.at.arrays ≡ arrays) xs

-- the lanes of a team did a phase
pub record DidPhase (layout : ElementLayout) (at : List Step) (number : ℕ) (xs : List MemberValue) (p : Pool) (ys : List MemberValue) (q : Pool) : Type 0 where
  pub works : List Work
  pub runs : TeamRuns layout at number xs p works ys q

-- so all its phases
pub record RanPhases (layout : ElementLayout) (at : List Step) (number : ℕ) (xs : List MemberValue) (p : Pool) (ys : List MemberValue) (q : Pool) : Type 0 where
  pub phases : Phases
  pub runs : PhasesRun layout at number xs p phases ys q

-- the region of a task ran, from these locals, and its logs were handed on
pub record DidRegion (layout : ElementLayout) (arrays : List Array) (team : TeamTree) (slots : List ℤ) (at : List Step) (number : ℕ) (p q : Pool) (old new : List WholeLog) : Type 0 where
  pub before : List MemberValue
  pub after : List MemberValue
  pub begin : BeginTeam arrays team slots before
  pub ran : RanPhases layout at number before p after q
  pub logs : new ≡ old ++ flat_map (logs_of_member at number) after

-- a task that has put the record of a region let it run, and no more tasks are below it than may be
pub record RanBelow (layout : ElementLayout) (path : List Step) (team : TeamTree) (arrays : List Array) (x y : MemberValue) : Type 0 where
  pub logs : List WholeLog
  pub deep : length path < 4
  pub few : length logs ≤ task_limit
  pub region : DidRegion layout arrays team x.stand.slots path x.forked (pool_at x.stand) (pool_at y.stand) x.below logs
  pub is : y ≡ later (record x { forked = x.forked + 1; below = logs }) (pool_at y.stand)

-- The root of a kernel ran to its end over words that were 0, with room for so many records in all. These are the logs of all tasks, and
-- the words at the end.
pub record DidRoot (layout : ElementLayout) (program : Program) (left : ℕ) (logs : List WholeLog) (words : List ℕ) : Type 0 where
  pub before : MemberValue
  pub after : MemberValue
  pub work : Work
  pub begins : BeginsLane program.arrays program.main (replicate program.slots (pos 0)) 0 before
  pub runs : LaneRuns layout [] (later before (record { words = replicate (elements program.arrays) 0; left = left })) work after
  pub ended : after.stage ≡ stage.Ended
  pub logs_are : logs ≡ logs_at [] after
  pub words_are : words ≡ after.stand.progress.words
