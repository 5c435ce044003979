-- A listing has each path once.
use Rattle.std.proofs.Common.{◌≡◌, refl, ap, sym, ◌∙◌, subst, ℕ, zero, suc, ◌+◌, arith, Bool, true, false, List, [], ◌∷◌, length, replicate, slice_get, Some}
use Rattle.std.specs.List.{AllByRecursion, IsDistinct}
use Rattle.std.proofs.lemmas.List.{length-replicate}
use Rattle.std.proofs.lemmas.Option.{same_Some}
use Rattle.sw_base.specs.declared.path.Step.{Step}
use Rattle.log_format.specs.declared.record.Record.{Record}
use Rattle.log_format.specs.declared.record.Kind.TheVariants as kind
use Rattle.race_model.specs.Listing.{IsListing}
use Rattle.race_model.specs.Trace.{Trace, path_eq}
use Rattle.race_laws.proofs.ListedOnce.{logs_at}
use Rattle.race_model.proofs.TraceLogs.{path_is}
use Rattle.kernel_model.specs.Folder.{paths_of}

-- the paths with logs as long as their places
mark : Record
mark = record { kind = kind.End; size = 0; site = 0; line = 1; addr = 0; value = 0 }

abbrev numbered : ℕ → List (List Step) → Trace
numbered n [] = []
numbered n (path ∷ paths) = record { path = path; records = replicate n mark } ∷ numbered (suc n) paths

numbered_paths : (n : ℕ) (paths : List (List Step)) → paths_of (numbered n paths) ≡ paths
numbered_paths n [] = refl
numbered_paths n (path ∷ paths) = ap (λ (l : List (List Step)). path ∷ l) (numbered_paths (suc n) paths)

numbered_at : (n : ℕ) (paths : List (List Step)) (k : ℕ) (path : List Step) → slice_get paths k ≡ Some path →
    slice_get (numbered n paths) k ≡ Some (record { path = path; records = replicate (n + k) mark })
numbered_at n [] k path found = absurd cc
numbered_at n (first ∷ paths) zero path found =
    let place : n + 0 ≡ n = omega arith in
    ap (λ (p : List Step). Some (record { path = p; records = replicate n mark })) (same_Some first path found)
    ∙ ap (λ (m : ℕ). Some (record { path = path; records = replicate m mark })) (sym place)
numbered_at n (first ∷ paths) (suc k) path found =
    let place : suc n + k ≡ n + suc k = omega arith in
    numbered_at (suc n) paths k path found ∙ ap (λ (m : ℕ). Some (record { path = path; records = replicate m mark })) place

-- a listing has each path in one place
one_place : (paths : List (List Step)) → IsListing paths → (i j : ℕ) (path : List Step) → slice_get paths i ≡ Some path → slice_get paths j ≡ Some path → i ≡ j
one_place paths lists i j path one other =
    let listed = subst IsListing (sym (numbered_paths 0 paths)) lists in
    let first = logs_at (numbered 0 paths) listed i (record { path = path; records = replicate (0 + i) mark }) (numbered_at 0 paths i path one) in
    let second = logs_at (numbered 0 paths) listed j (record { path = path; records = replicate (0 + j) mark }) (numbered_at 0 paths j path other) in
    let size : length (replicate (0 + i) mark) ≡ length (replicate (0 + j) mark) = ap length (sym first ∙ second) in
    omega (arith, length-replicate (0 + i) mark, length-replicate (0 + j) mark)

differs : (path : List Step) (paths : List (List Step)) → ((k : ℕ) → slice_get paths k ≡ Some path → ⊥) → AllByRecursion (λ (p : List Step). path_eq path p ≡ false) paths
differs path [] never = tt
differs path (p ∷ paths) never = (by (path_eq path p) refl, differs path paths (λ k found. never (suc k) found))
  where
    by : (b : Bool) → path_eq path p ≡ b → path_eq path p ≡ false
    by true same = absurd (never 0 (ap (λ (q : List Step). Some q) (sym (path_is path p same))))
    by false same = same

distinct : (paths : List (List Step)) → ((i j : ℕ) (path : List Step) → slice_get paths i ≡ Some path → slice_get paths j ≡ Some path → i ≡ j) → IsDistinct path_eq paths
unfolding IsDistinct
distinct [] only = tt
distinct (path ∷ paths) only = (
  differs path paths (λ k found. let same = only 0 (suc k) path refl found in absurd (omega arith)),
  distinct paths (λ i j p one other. let same = only (suc i) (suc j) p one other in omega arith),
)

pub listed_once : (paths : List (List Step)) → IsListing paths → IsDistinct path_eq paths
listed_once paths lists = distinct paths (one_place paths lists)
