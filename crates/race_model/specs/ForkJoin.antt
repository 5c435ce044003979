-- The logs that a fork-join run leaves: the tree of its tasks, and what holds of them when it ended.
use Rattle.std.specs.Prelude.{◌≡◌, ℕ, List, [], ◌∷◌, ◌++◌, map, All, Contains}
use Rattle.sw_base.specs.declared.path.Step.{Step}
use Rattle.log_format.specs.declared.record.Record.{Record}
use Rattle.log_format.specs.declared.record.Kind.TheVariants.{End}
use Rattle.race_model.specs.Trace.{TaskLog, Trace, Logs, Node, IsThere, logs_of, barrier_count}
use Rattle.race_model.specs.Order.{IsLane}

-- the log ends with End, which stands nowhere else
pub record EndsOnce (records : List Record) : Type 0 where
  pub prefix : List Record
  pub last : Record
  pub parts : records ≡ prefix ++ last ∷ []
  pub ends : last.kind ≡ End
  pub once : All (λ r. r.kind ≡ End → ⊥) prefix

-- there is a task with this path: it has a record
abbrev pub IsTask : Logs → List Step → Type 0
IsTask logs path = IsThere logs (record { path = path; index = 0 })

-- the Region record that forked the task of this path and step
pub record WasForked (logs : Logs) (path : List Step) (step : Step) : Type 0 where
  pub fork : Node
  pub above : fork.path ≡ path
  pub lane : IsLane logs fork step.lane step.span (path ++ step ∷ [])

-- The tasks of a run as a tree: the root is one of them, and each other one is a lane of a region that its parent forked.
-- The lanes of a region may be missing, and a task of a run that stopped may have no record yet.
pub record IsTaskTree (IsOne : List Step → Type 0) (logs : Logs) : Type 0 where
  pub root : IsOne []
  pub forked : (path : List Step) (step : Step) → IsOne (path ++ step ∷ []) → WasForked logs path step

-- the trace lists a task of this path, perhaps with no record
abbrev pub ListsTask : Trace → List Step → Type 0
ListsTask trace path = Contains (map (λ (task : TaskLog). task.path) trace) path

-- the tasks of a trace are a tree
abbrev pub IsTreeTrace : Trace → Type 0
IsTreeTrace trace = IsTaskTree (ListsTask trace) (logs_of trace)

-- Every task ended, every fork has its lanes, and a team's lanes passed equally many barriers.
pub record HasEnded (logs : Logs) : Type 0 where
  pub ended : (path : List Step) → IsTask logs path → EndsOnce (logs path)
  pub lanes : (fork : Node) (lane span : ℕ) (path : List Step) → IsLane logs fork lane span path → IsTask logs path
  pub same_barriers : (fork : Node) (lane other span : ℕ) (path beside : List Step) → IsLane logs fork lane span path → IsLane logs fork other span beside
      → barrier_count (logs path) ≡ barrier_count (logs beside)
  pub no_root_barrier : barrier_count (logs []) ≡ 0

-- a run that ended: its tasks are a tree, and all of them ended
pub record IsForkJoin (logs : Logs) : Type 0 where
  pub tasks : IsTaskTree (IsTask logs) logs
  pub ends : HasEnded logs
