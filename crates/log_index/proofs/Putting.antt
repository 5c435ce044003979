-- What a folder holds after the logs of tasks were put one after another.
use Rattle.std.proofs.Common.{◌≡◌, ◌≢◌, ℕ, List, [], ◌∷◌, ◌++◌, map, Some, refl, ◌∙◌}
use Rattle.std.specs.Prelude.{All}
use Rattle.std.proofs.lemmas.List.Elements.{All-cons, All-head, All-nil, All-tail}
use Rattle.log_format.specs.declared.format.TheConstants.{FORMAT}
use Rattle.log_format.specs.Format.{log_header}
use Rattle.log_format.specs.Spelling.{log_bytes}
use Rattle.sw_base.specs.Environment.{Content, Files}
use Rattle.sw_base.specs.Names.{log_name}
use Rattle.sw_base.proofs.AfterPut.{with_file-elsewhere, with_file-here}
use Rattle.sw_base.proofs.NameLaws.{HasPlace, log_name-places, place}
use Rattle.race_model.specs.Trace.{TaskLog, Trace}
use Rattle.log_index.specs.Puts.{with_task, with_tasks}

-- one more task
pub with_tasks-push : (dir : List ℕ) (tasks : Trace) (task : TaskLog) (content : Content) → with_tasks dir (tasks ++ task ∷ []) content ≡ with_task dir task (with_tasks dir tasks content)
with_tasks-push dir [] task content = refl
with_tasks-push dir (t ∷ tasks) task content = with_tasks-push dir tasks task (with_task dir t content)

-- a file that is none of the logs is as before
pub other_file : (dir : List ℕ) (tasks : Trace) (name : List ℕ) (content : Content) → All (λ (task : TaskLog). name ≢ log_name dir task.path) tasks
    → (with_tasks dir tasks content).held name ≡ content.held name
other_file dir [] name content apart = refl
other_file dir (task ∷ tasks) name content apart =
    other_file dir tasks name (with_task dir task content) (All-tail (λ (t : TaskLog). name ≢ log_name dir t.path) task tasks apart)
    ∙ with_file-elsewhere (log_name dir task.path) (log_bytes (log_header FORMAT) task.records) content.held name (All-head (λ (t : TaskLog). name ≢ log_name dir t.path) task tasks apart)

-- the task isn't at the place of another
abbrev pub IsApart : TaskLog → TaskLog → Type 0
IsApart task other = map place task.path ≢ map place other.path

abbrev pub AreApart : Trace → Type 0
AreApart [] = Unit {0}
AreApart (task ∷ tasks) = All (IsApart task) tasks × AreApart tasks

abbrev pub HasPlaces : TaskLog → Type 0
HasPlaces task = All HasPlace task.path

-- the names of tasks at other places
other_names : (dir : List ℕ) (task : TaskLog) (tasks : Trace) → HasPlaces task → All HasPlaces tasks → All (IsApart task) tasks → All (λ (t : TaskLog). log_name dir task.path ≢ log_name dir t.path) tasks
other_names dir task [] own places apart = All-nil (λ (t : TaskLog). log_name dir task.path ≢ log_name dir t.path)
other_names dir task (t ∷ tasks) own places apart =
    All-cons (λ (t : TaskLog). log_name dir task.path ≢ log_name dir t.path) t tasks
    (λ same. All-head (IsApart task) t tasks apart (log_name-places dir task.path t.path own (All-head HasPlaces t tasks places) same))
    (other_names dir task tasks own (All-tail HasPlaces t tasks places) (All-tail (IsApart task) t tasks apart))

-- each log is there
abbrev pub HasLog : Files → List ℕ → TaskLog → Type 0
HasLog files dir task = files (log_name dir task.path) ≡ Some (log_bytes (log_header FORMAT) task.records)

pub all_there : (dir : List ℕ) (tasks : Trace) (content : Content) → All HasPlaces tasks → AreApart tasks → All (HasLog (with_tasks dir tasks content).held dir) tasks
all_there dir [] content places apart = All-nil (HasLog content.held dir)
all_there dir (task ∷ tasks) content places apart =
    let own = All-head HasPlaces task tasks places in
    let rest = All-tail HasPlaces task tasks places in
    All-cons (HasLog (with_tasks dir (task ∷ tasks) content).held dir) task tasks
    (other_file dir tasks (log_name dir task.path) (with_task dir task content) (other_names dir task tasks own rest apart.0)
    ∙ with_file-here (log_name dir task.path) (log_bytes (log_header FORMAT) task.records) content.held)
    (all_there dir tasks (with_task dir task content) rest apart.1)
