-- A folder holds at most one trace.
use Rattle.std.proofs.Common.{◌≡◌, ℕ, List, [], ◌∷◌, refl, ap, subst}
use Rattle.std.proofs.lemmas.List.Elements.{All-head, All-tail}
use Rattle.sw_base.specs.declared.path.Step.{Step}
use Rattle.sw_base.specs.Environment.{Files}
use Rattle.log_format.specs.declared.format.Format.{Format}
use Rattle.race_model.specs.Row.{Row}
use Rattle.race_model.specs.Trace.{TaskLog, Trace}
use Rattle.race_model.specs.LogFault.{IsWholeLog}
use Rattle.race_model.specs.FirstBad.{HoldsLogs, HoldsTrace, row_of, rows_of}
use Rattle.race_laws.proofs.IndexRows.{index_once}
use Rattle.race_laws.proofs.LogOnce.{log_once}

abbrev pub Whole : Format → Files → List ℕ → TaskLog → Type 0
Whole format files dir task = IsWholeLog format files dir task.path task.records

same_task : {format : Format} (files : Files) (dir : List ℕ) (t u : TaskLog) → row_of t ≡ row_of u → Whole format files dir t → Whole format files dir u → t ≡ u
same_task {format} files dir t u row a b =
    let path : t.path ≡ u.path = ap (λ (r : Row). r.path) row in
    let records = log_once files dir u.path t.records u.records (subst (λ (p : List Step). IsWholeLog format files dir p t.records) path a) b in
    λ i. record { path = path i; records = records i }

-- the logs beside the same rows are those of one trace
pub same_tasks : {format : Format} (files : Files) (dir : List ℕ) (t u : Trace) → rows_of t ≡ rows_of u → HoldsLogs format files dir t → HoldsLogs format files dir u → t ≡ u
same_tasks files dir [] [] rows a b = refl
same_tasks files dir [] (y ∷ u) rows a b = cc
same_tasks files dir (x ∷ t) [] rows a b = cc
same_tasks {format} files dir (x ∷ t) (y ∷ u) rows a b =
    let first : row_of x ≡ row_of y = cc in
    let others : rows_of t ≡ rows_of u = cc in
    let head = same_task files dir x y first (All-head (Whole format files dir) x t a) (All-head (Whole format files dir) y u b) in
    let tail = same_tasks files dir t u others (All-tail (Whole format files dir) x t a) (All-tail (Whole format files dir) y u b) in
    λ i. head i ∷ tail i

pub trace_once : {format : Format} (files : Files) (dir : List ℕ) (t u : Trace) → HoldsTrace format files dir t → HoldsTrace format files dir u → t ≡ u
trace_once files dir t u a b = same_tasks files dir t u (index_once files dir (rows_of t) (rows_of u) a.index b.index) a.logs b.logs
