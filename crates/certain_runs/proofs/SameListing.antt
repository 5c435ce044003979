-- Two runs with the same logs, each listed as in an index, are listed alike.
use Rattle.std.proofs.Common.{◌≡◌, refl, ap, ap₂, sym, ◌∙◌, ℕ, suc, List, [], ◌∷◌, map, Some}
use Rattle.std.specs.Prelude.{slice_get}
use Rattle.sw_base.specs.declared.path.Step.{Step}
use Rattle.race_model.specs.ForkJoin.{ListsTask}
use Rattle.race_model.specs.Listing.{IsListing}
use Rattle.race_model.specs.Trace.{TaskLog, Trace, Logs, logs_of}
use Rattle.race_laws.proofs.ListedOnce.{logs_at}
use Rattle.kernel_model.specs.Folder.{paths_of}
use Rattle.log_walk.proofs.RowOrder.{PathBefore, path_trans, path_irreflexive, listing_sorted}
use Rattle.certain_runs.proofs.Listed.{lists_member, member_lists, same_ordered}

-- a trace is its paths with their logs
told_by : (logs : Logs) (tasks : Trace) → ((k : ℕ) (task : TaskLog) → slice_get tasks k ≡ Some task → logs task.path ≡ task.records)
    → tasks ≡ map (λ (p : List Step). record { path = p; records = logs p }) (paths_of tasks)
told_by logs [] same = refl
told_by logs (t ∷ tasks) same =
    ap₂ (λ (x : TaskLog) (xs : Trace). x ∷ xs) (λ i. record { path = t.path; records = sym (same 0 t refl) i }) (told_by logs tasks (λ k task found. same (suc k) task found))

pub same_listing : (run other : Trace) → IsListing (paths_of run) → IsListing (paths_of other) → ((path : List Step) → ListsTask run path → ListsTask other path)
    → ((path : List Step) → ListsTask other path → ListsTask run path) → ((path : List Step) → logs_of other path ≡ logs_of run path) → other ≡ run
same_listing run other one two there back logs =
    told_by (logs_of other) other (λ k task found. logs_at other two k task found)
    ∙ (ap (λ (l : Logs). map (λ (p : List Step). record { path = p; records = l p }) (paths_of other)) (λ i path. logs path i)
    ∙ (ap (λ (ps : List (List Step)). map (λ (p : List Step). record { path = p; records = logs_of run p }) ps) paths
    ∙ sym (told_by (logs_of run) run (λ k task found. logs_at run one k task found))))
  where
    paths : paths_of other ≡ paths_of run
    paths = same_ordered PathBefore path_irreflexive path_trans (paths_of other) (paths_of run)
        (λ i j p q less first second. listing_sorted (paths_of other) i j p q two less first second)
        (λ i j p q less first second. listing_sorted (paths_of run) i j p q one less first second)
        (λ p m. lists_member run p (back p (member_lists other p m)))
        (λ p m. lists_member other p (there p (member_lists run p m)))
