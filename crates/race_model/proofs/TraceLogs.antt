-- The logs of a trace: what is found at a path is a task's records, and each task is found.
use Rattle.std.proofs.Common.{◌≡◌, ℕ, zero, suc, ◌<◌, ◌≤◌, Bool, true, false, ◌&&◌, List, [], ◌∷◌, length, Some, refl, sym, ap₂, subst, ◌∙◌, arith}
use Rattle.std.specs.Prelude.{◌==◌, slice_get, Contains, map, All}
use Rattle.std.proofs.lemmas.Option.{slice_get_within, get_or_from_slice_get, same_Some}
use Rattle.std.proofs.lemmas.List.Elements.{All-head, All-tail}
use Rattle.sw_base.specs.declared.path.Step.{Step}
use Rattle.std.proofs.lemmas.Bool.{and_parts}
use Rattle.log_format.specs.declared.record.Record.{Record}
use Rattle.race_model.specs.Row.{Row}
use Rattle.race_model.specs.Trace.{TaskLog, Trace, logs_of, step_eq, path_eq, Logs, Node, IsThere, record_at}
use Rattle.race_model.specs.FirstBad.{row_of, rows_of}
use Rattle.race_model.specs.ForkJoin.{IsTask, ListsTask}

same_number : (m n : ℕ) → (m == n) ≡ true → m ≡ n
same_number m n e = grind arith

number_itself : (n : ℕ) → (n == n) ≡ true
number_itself n = grind arith

step_is : (a b : Step) → step_eq a b ≡ true → a ≡ b
step_is a b e =
    let prefix = and_parts ((a.region == b.region) && (a.lane == b.lane)) (a.span == b.span) e in
    let two = and_parts (a.region == b.region) (a.lane == b.lane) prefix.0 in
    let region = same_number a.region b.region two.0 in
    let lane = same_number a.lane b.lane two.1 in
    let span = same_number a.span b.span prefix.1 in
    λ i. record { region = region i; lane = lane i; span = span i }

-- paths are told apart exactly
pub path_is : (p q : List Step) → path_eq p q ≡ true → p ≡ q
path_is [] [] e = refl
path_is [] (t ∷ q) e = cc
path_is (s ∷ p) [] e = cc
path_is (s ∷ p) (t ∷ q) e =
    let parts = and_parts (step_eq s t) (path_eq p q) e in
    ap₂ (λ (x : Step) (xs : List Step). x ∷ xs) (step_is s t parts.0) (path_is p q parts.1)

pub path_itself : (p : List Step) → path_eq p p ≡ true
path_itself [] = refl
path_itself (s ∷ p) = rw (number_itself s.region, number_itself s.lane, number_itself s.span) (path_itself p)

-- an element at a place has what all have
pub all_at : {X : Type 0} (P : X → Type 0) (xs : List X) (i : ℕ) (x : X) → All P xs → slice_get xs i ≡ Some x → P x
all_at P xs i x all found = subst P (get_or_from_slice_get xs i x x found) (all i x (slice_get_within xs i x found))

-- a record that is found is there
pub record_there : (logs : Logs) (x : Node) (r : Record) → record_at logs x ≡ Some r → IsThere logs x
record_there logs x r found = slice_get_within (logs x.path) x.index r found

-- the task whose records are found at a path
pub record Found (trace : Trace) (path : List Step) : Type 0 where
  pub index : ℕ
  pub task : TaskLog
  pub found : slice_get trace index ≡ Some task
  pub path_is : task.path ≡ path
  pub records_are : task.records ≡ logs_of trace path

found_later : (task : TaskLog) (tasks : Trace) (path : List Step) → logs_of tasks path ≡ logs_of (task ∷ tasks) path → Found tasks path → Found (task ∷ tasks) path
found_later task tasks path same f = record {
  index = suc f.index;
  task = f.task;
  found = f.found;
  path_is = f.path_is;
  records_are = f.records_are ∙ same;
}

pub find_task : (trace : Trace) (path : List Step) → IsTask (logs_of trace) path → Found trace path
find_task [] path h = absurd (omega arith)
find_task (task ∷ tasks) path h = go (path_eq task.path path) refl (find_task tasks path)
  where
    go : (b : Bool) → path_eq task.path path ≡ b → (IsTask (logs_of tasks) path → Found tasks path) → Found (task ∷ tasks) path
    go true e rest =
        let same : task.records ≡ logs_of (task ∷ tasks) path = rw e refl in
        record { index = 0; task = task; found = refl; path_is = path_is task.path path e; records_are = same }
    go false e rest =
        let same : logs_of tasks path ≡ logs_of (task ∷ tasks) path = rw e refl in
        found_later task tasks path same (rest (subst (λ (records : List Record). 0 < length records) (sym same) h))

-- a task that is listed is found
pub find_listed : (tasks : Trace) (path : List Step) → ListsTask tasks path → Found tasks path
find_listed [] path (k, within, is) = absurd (omega arith)
find_listed (t ∷ tasks) path has = by (path_eq t.path path) refl (find_listed tasks path)
  where
    in_rest : path_eq t.path path ≡ false → ListsTask (t ∷ tasks) path → ListsTask tasks path
    in_rest other (zero, within, is) =
        let same : path_eq t.path path ≡ true = subst (λ (p : List Step). path_eq t.path p ≡ true) is (path_itself t.path) in
        cc
    in_rest other (suc k, within, is) = (k, omega arith, is)

    by : (b : Bool) → path_eq t.path path ≡ b → (ListsTask tasks path → Found tasks path) → Found (t ∷ tasks) path
    by true is rest = record { index = 0; task = t; found = refl; path_is = path_is t.path path is; records_are = rw is refl }
    by false is rest =
        let f = rest (in_rest is has) in
        record { index = suc f.index; task = f.task; found = f.found; path_is = f.path_is; records_are = f.records_are ∙ rw is refl }

abbrev pub HasRecords : TaskLog → Type 0
HasRecords task = 1 ≤ length task.records

-- a task that is listed with a record is found
pub listed_task : (trace : Trace) (path : List Step) → All HasRecords trace → Contains (map (λ (task : TaskLog). task.path) trace) path → IsTask (logs_of trace) path
listed_task [] path each (k, within, is) = absurd (omega arith)
listed_task (task ∷ tasks) path each listed = go (path_eq task.path path) refl listed (listed_task tasks path (All-tail HasRecords task tasks each))
  where
    some : 1 ≤ length task.records
    some = All-head HasRecords task tasks each

    in_rest : path_eq task.path path ≡ false → Contains (map (λ (t : TaskLog). t.path) (task ∷ tasks)) path → Contains (map (λ (t : TaskLog). t.path) tasks) path
    in_rest e (zero, within, is) =
        let yes : path_eq task.path path ≡ true = subst (λ (p : List Step). path_eq task.path p ≡ true) is (path_itself task.path) in
        cc
    in_rest e (suc k, within, is) = (k, omega arith, is)

    go : (b : Bool) → path_eq task.path path ≡ b → Contains (map (λ (t : TaskLog). t.path) (task ∷ tasks)) path
        → (Contains (map (λ (t : TaskLog). t.path) tasks) path → IsTask (logs_of tasks) path) → IsTask (logs_of (task ∷ tasks)) path
    go true e listed rest =
        let same : task.records ≡ logs_of (task ∷ tasks) path = rw e refl in
        subst (λ (records : List Record). 0 < length records) same (omega (arith, some))
    go false e listed rest =
        let same : logs_of tasks path ≡ logs_of (task ∷ tasks) path = rw e refl in
        subst (λ (records : List Record). 0 < length records) same (rest (in_rest e listed))

-- the task of a row
pub record RowTask (trace : Trace) (index : ℕ) (row : Row) : Type 0 where
  pub task : TaskLog
  pub found : slice_get trace index ≡ Some task
  pub row_is : row ≡ row_of task

pub task_in : (trace : Trace) (index : ℕ) (row : Row) → slice_get (rows_of trace) index ≡ Some row → RowTask trace index row
task_in [] index row found = cc
task_in (t ∷ trace) zero row found = record { task = t; found = refl; row_is = sym (same_Some (row_of t) row found) }
task_in (t ∷ trace) (suc index) row found = let at = task_in trace index row found in record { task = at.task; found = at.found; row_is = at.row_is }
