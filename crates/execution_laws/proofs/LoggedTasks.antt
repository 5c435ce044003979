-- The logs of the tasks of a tree: those of its works, without the unlocks that no log has.
use Rattle.std.proofs.Common.{◌≡◌, ◌⊎◌, inl, inr, refl, sym, ap, ◌∙◌, subst, ℕ, zero, suc, ◌<◌, ◌≤◌, Bool, true, false, List, [], ◌∷◌, length, map, arith}
use Rattle.std.specs.Prelude.{get_or}
use Rattle.std.proofs.lemmas.Bool.{cases_lt}
use Rattle.sw_base.specs.declared.path.Step.{Step}
use Rattle.log_format.specs.declared.record.Record.{Record}
use Rattle.race_model.specs.Trace.{TaskLog, Trace, logs_of, path_eq}
use Rattle.race_model.specs.ForkJoin.{ListsTask}
use Rattle.race_model.proofs.TraceLogs.{path_is}
use Rattle.history_model.specs.Work.{Work, works_of, task_logs}
use Rattle.history_model.specs.Tasks.{tree_tasks}
use Rattle.history_model.specs.Sound.{WordLayout, IsSound}
use Rattle.history_laws.proofs.Members.{Member}
use Rattle.history_laws.proofs.TaskTree.{AreForked, all_listed, logs_listed, listed_member, tasks_under}
use Rattle.execution_model.specs.Runs.{put_records, works_log, as_logged, logged_tasks, IsWithin}

-- a path is listed, or it has no records
pub listed_or : (trace : Trace) (path : List Step) → ListsTask trace path ⊎ (logs_of trace path ≡ [])
listed_or [] path = inr refl
listed_or (t ∷ trace) path = at (path_eq t.path path) refl (listed_or trace path) where
  at : (b : Bool) → path_eq t.path path ≡ b → ListsTask trace path ⊎ (logs_of trace path ≡ []) → ListsTask (t ∷ trace) path ⊎ (logs_of (t ∷ trace) path ≡ [])
  at true e rest = inl (0, omega arith, path_is t.path path e)
  at false e (inl (k, within, is)) = inl (suc k, omega arith, is)
  at false e (inr none_there) = inr (let here : logs_of (t ∷ trace) path ≡ logs_of trace path = rw e refl in here ∙ none_there)

-- the records that logs have
logs_put : (trace : Trace) (path : List Step) → logs_of (map as_logged trace) path ≡ put_records (logs_of trace path)
logs_put [] path = refl
logs_put (t ∷ trace) path = at (path_eq t.path path) refl (logs_put trace path) where
  at : (b : Bool) → path_eq t.path path ≡ b → logs_of (map as_logged trace) path ≡ put_records (logs_of trace path)
      → logs_of (map as_logged (t ∷ trace)) path ≡ put_records (logs_of (t ∷ trace) path)
  at true e rest = rw e refl
  at false e rest = rw e rest

paths_same : (trace : Trace) → map (λ (task : TaskLog). task.path) (map as_logged trace) ≡ map (λ (task : TaskLog). task.path) trace
paths_same [] = refl
paths_same (t ∷ trace) = ap (λ (paths : List (List Step)). t.path ∷ paths) (paths_same trace)

pub lists_logged : (trace : Trace) (path : List Step) → ListsTask trace path → ListsTask (map as_logged trace) path
lists_logged trace path (k, within, is) = (
  k,
  subst (λ (paths : List (List Step)). k < length paths) (sym (paths_same trace)) within,
  subst (λ (paths : List (List Step)). get_or paths k path ≡ path) (sym (paths_same trace)) is,
)

pub logged_lists : (trace : Trace) (path : List Step) → ListsTask (map as_logged trace) path → ListsTask trace path
logged_lists trace path (k, within, is) = (
  k,
  subst (λ (paths : List (List Step)). k < length paths) (paths_same trace) within,
  subst (λ (paths : List (List Step)). get_or paths k path ≡ path) (paths_same trace) is,
)

pub no_records : (records : List Record) → length records ≡ 0 → records ≡ []
no_records [] size = refl
no_records (r ∷ records) size = absurd (omega arith)

module _ (layout : WordLayout) (depth : ℕ) (root : Work) (sound : IsSound layout root) (within : IsWithin depth root) where
  -- the tasks of the tree have all records
  pub tree_logs : (path : List Step) → logs_of (tree_tasks depth root) path ≡ task_logs root path
  tree_logs path = by_size (length (task_logs root path)) refl where
    by_size : (n : ℕ) → length (task_logs root path) ≡ n → logs_of (tree_tasks depth root) path ≡ task_logs root path
    by_size zero size = by_listing (listed_or (tree_tasks depth root) path) where
      by_listing : ListsTask (tree_tasks depth root) path ⊎ (logs_of (tree_tasks depth root) path ≡ []) → logs_of (tree_tasks depth root) path ≡ task_logs root path
      by_listing (inl lists) = logs_listed depth root path lists
      by_listing (inr empty) = empty ∙ sym (no_records (task_logs root path) size)
    by_size (suc n) size = by_depth (cases_lt depth (length path)) where
      by_depth : (depth < length path) ⊎ (length path ≤ depth) → logs_of (tree_tasks depth root) path ≡ task_logs root path
      by_depth (inl deep) = let empty : length (task_logs root path) ≡ 0 = ap (λ (rs : List Record). length rs) (within path deep) in absurd (omega arith)
      by_depth (inr short) = logs_listed depth root path (all_listed layout depth root path sound short (omega arith))

  -- and their logs those that were put
  pub log_is : (path : List Step) → logs_of (logged_tasks depth root) path ≡ works_log (works_of root path)
  log_is path = logs_put (tree_tasks depth root) path ∙ ap (λ (rs : List Record). put_records rs) (tree_logs path)

-- a listed path was forked
pub listed_forked : (depth : ℕ) (root : Work) (path : List Step) → ListsTask (tree_tasks depth root) path → AreForked (root ∷ []) path
listed_forked depth root path lists = at (listed_member (tree_tasks depth root) path lists) where
  at : (task : TaskLog) × Member (tree_tasks depth root) task × (task.path ≡ path) → AreForked (root ∷ []) path
  at (task, m, same) =
      let u = tasks_under (suc depth) [] (root ∷ []) task m in
      subst (λ (p : List Step). AreForked (root ∷ []) p) (sym u.path_is ∙ same) u.forked
