-- Where a trace's tasks are, by their paths.
use Rattle.std.proofs.Common.{◌≡◌, ℕ, zero, suc, Bool, true, false, List, [], ◌∷◌, map, Some, refl, sym, ap, subst, ◌∙◌, arith}
use Rattle.std.specs.Prelude.{slice_get, Option, option_map}
use Rattle.std.proofs.lemmas.Option.{same_Some, slice_get-map}
use Rattle.sw_base.specs.declared.path.Step.{Step}
use Rattle.race_model.specs.Row.{Row}
use Rattle.race_model.specs.Listing.{IsListing}
use Rattle.race_model.specs.IndexFault.{AreRows}
use Rattle.race_model.specs.Trace.{TaskLog, Trace, logs_of, path_eq}
use Rattle.race_model.specs.FirstBad.{rows_of}
use Rattle.race_model.proofs.TraceLogs.{path_is, path_itself}
use Rattle.log_walk.proofs.RowOrder.{listed_once}

abbrev pub path_of : TaskLog → List Step
path_of task = task.path

abbrev pub row_path : Row → List Step
row_path row = row.path

-- the paths of a trace are those of its rows
pub paths_are : (trace : Trace) → map row_path (rows_of trace) ≡ map path_of trace
paths_are [] = refl
paths_are (task ∷ trace) = ap (λ (ps : List (List Step)). task.path ∷ ps) (paths_are trace)

-- no path stands twice
abbrev pub IsOnce : Trace → Type 0
IsOnce trace = (i j : ℕ) (a b : TaskLog) → slice_get trace i ≡ Some a → slice_get trace j ≡ Some b → a.path ≡ b.path → i ≡ j

-- the records at its path are its own
pub logs_at : (trace : Trace) (k : ℕ) (task : TaskLog) → IsOnce trace → slice_get trace k ≡ Some task → logs_of trace task.path ≡ task.records
logs_at [] k task once found = cc
logs_at (t ∷ trace) zero task once found =
    let same : t ≡ task = same_Some t task found in
    subst (λ (u : TaskLog). logs_of (t ∷ trace) u.path ≡ u.records) same (rw (path_itself t.path) refl)
logs_at (t ∷ trace) (suc k) task once found = at (path_eq t.path task.path) refl (logs_at trace k task (λ i j a b one other same. omega (arith, once (suc i) (suc j) a b one other same)) found) where
  at : (b : Bool) → path_eq t.path task.path ≡ b → logs_of trace task.path ≡ task.records → logs_of (t ∷ trace) task.path ≡ task.records
  at true is rest = absurd (omega (arith, once 0 (suc k) t task refl found (path_is t.path task.path is)))
  at false is rest = rw is rest

-- what an index of these rows tells of a trace
pub record IsIndexed (rows : List Row) (trace : Trace) : Type 0 where
  pub rows_are : rows_of trace ≡ rows
  pub good : AreRows rows

pub lists_paths : (rows : List Row) (trace : Trace) → IsIndexed rows trace → IsListing (map path_of trace)
lists_paths rows trace is = subst (λ (ps : List (List Step)). IsListing ps) (paths_are trace) (subst (λ (rs : List Row). IsListing (map row_path rs)) (sym is.rows_are) is.good.lists)

path_at : (trace : Trace) (k : ℕ) (task : TaskLog) → slice_get trace k ≡ Some task → slice_get (map path_of trace) k ≡ Some task.path
path_at trace k task found = slice_get-map path_of trace k ∙ ap (λ (o : Option TaskLog). option_map path_of o) found

pub indexed_once : (rows : List Row) (trace : Trace) → IsIndexed rows trace → IsOnce trace
indexed_once rows trace is i j a b one other same =
    listed_once (map path_of trace) i j a.path (lists_paths rows trace is) (path_at trace i a one)
    (path_at trace j b other ∙ ap (λ (p : List Step). Some p) (sym same))
