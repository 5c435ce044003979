-- The order of a listing's paths: a task before all that is under it, and lanes and regions by number.
use Rattle.std.proofs.Common.{◌≡◌, ◌≢◌, ◌⊎◌, inl, inr, ℕ, zero, suc, ◌<◌, List, [], ◌∷◌, ◌++◌, Some, refl, sym, ap, subst, ◌∙◌, arith}
use Rattle.std.specs.Prelude.{slice_get}
use Rattle.std.proofs.lemmas.Bool.{cases_order}
use Rattle.std.proofs.lemmas.Option.{same_Some}
use Rattle.sw_base.specs.declared.path.Step.{Step}
use Rattle.race_model.specs.Listing.{IsListing, BeginsListing, IsNextPath}
use Rattle.race_laws.proofs.Listings.{IsChain, chain_of_begins, begins_at_root, lists_begins}

-- an earlier region, or an earlier lane of the same
abbrev pub StepBefore : Step → Step → Type 0
StepBefore s t = (s.region < t.region) ⊎ ((s.region ≡ t.region) × (s.lane < t.lane))

-- the path's task is listed before the other's
abbrev pub PathBefore : List Step → List Step → Type 0
PathBefore [] [] = ⊥
PathBefore [] (t ∷ q) = Unit {0}
PathBefore (s ∷ p) [] = ⊥
PathBefore (s ∷ p) (t ∷ q) = StepBefore s t ⊎ ((s ≡ t) × PathBefore p q)

pub step_trans : (s t u : Step) → StepBefore s t → StepBefore t u → StepBefore s u
step_trans s t u (inl one) (inl other) = inl (omega arith)
step_trans s t u (inl one) (inr other) = inl (omega (arith, other.0))
step_trans s t u (inr one) (inl other) = inl (omega (arith, one.0))
step_trans s t u (inr one) (inr other) = inr (one.0 ∙ other.0, omega (arith, one.1, other.1))

pub not_before_itself : (s t : Step) → s ≡ t → StepBefore s t → ⊥
not_before_itself s t same (inl less) = absurd (omega (arith, ap (λ (u : Step). u.region) same))
not_before_itself s t same (inr less) = absurd (omega (arith, less.1, ap (λ (u : Step). u.lane) same))

pub path_trans : (p q r : List Step) → PathBefore p q → PathBefore q r → PathBefore p r
path_trans [] [] r one other = absurd one
path_trans [] (t ∷ q) [] one other = absurd other
path_trans [] (t ∷ q) (u ∷ r) one other = tt
path_trans (s ∷ p) [] r one other = absurd one
path_trans (s ∷ p) (t ∷ q) [] one other = absurd other
path_trans (s ∷ p) (t ∷ q) (u ∷ r) (inl one) (inl other) = inl (step_trans s t u one other)
path_trans (s ∷ p) (t ∷ q) (u ∷ r) (inl one) (inr (same, other)) = inl (subst (λ (x : Step). StepBefore s x) same one)
path_trans (s ∷ p) (t ∷ q) (u ∷ r) (inr (same, one)) (inl other) = inl (subst (λ (x : Step). StepBefore x u) (sym same) other)
path_trans (s ∷ p) (t ∷ q) (u ∷ r) (inr (same, one)) (inr (again, other)) = inr (same ∙ again, path_trans p q r one other)

pub path_irreflexive : (p : List Step) → PathBefore p p → ⊥
path_irreflexive [] before = before
path_irreflexive (s ∷ p) (inl less) = not_before_itself s s refl less
path_irreflexive (s ∷ p) (inr (same, less)) = path_irreflexive p less

next_before : (p q : List Step) → IsNextPath p q → PathBefore p q
next_before p [] next = absurd next
next_before [] (t ∷ []) next = tt
next_before (s ∷ p) (t ∷ []) (lasts, inl lane) = inl (inr (sym lane.region, omega (arith, lane.lane)))
next_before (s ∷ p) (t ∷ []) (lasts, inr region) = inl (inl (omega (arith, region.first.region_is)))
next_before [] (t ∷ u ∷ q) next = absurd next
next_before (s ∷ p) (t ∷ u ∷ q) (same, next) = inr (same, next_before p (u ∷ q) next)

chain_before : (path : List Step) (paths : List (List Step)) (k : ℕ) (q : List Step) → IsChain path paths → slice_get paths k ≡ Some q → PathBefore path q
chain_before path [] k q chain found = cc
chain_before path (next ∷ paths) zero q (goes, chain) found = subst (λ (x : List Step). PathBefore path x) (same_Some next q found) (next_before path next goes)
chain_before path (next ∷ paths) (suc k) q (goes, chain) found = path_trans path next q (next_before path next goes) (chain_before next paths k q chain found)

chain_sorted : (path : List Step) (paths : List (List Step)) (i j : ℕ) (p q : List Step) → IsChain path paths → i < j
    → slice_get (path ∷ paths) i ≡ Some p → slice_get (path ∷ paths) j ≡ Some q → PathBefore p q
chain_sorted path paths i zero p q chain less one other = absurd (omega arith)
chain_sorted path paths zero (suc j) p q chain less one other = subst (λ (x : List Step). PathBefore x q) (same_Some path p one) (chain_before path paths j q chain other)
chain_sorted path [] (suc i) (suc j) p q chain less one other = cc
chain_sorted path (next ∷ paths) (suc i) (suc j) p q (goes, chain) less one other = chain_sorted next paths i j p q chain (omega arith) one other

-- the paths of a listing are in order
pub listing_sorted : (paths : List (List Step)) (i j : ℕ) (p q : List Step) → IsListing paths → i < j → slice_get paths i ≡ Some p → slice_get paths j ≡ Some q → PathBefore p q
listing_sorted [] i j p q lists less one other = cc
listing_sorted (path ∷ paths) i j p q lists less one other =
    let root : path ≡ [] = begins_at_root path paths (lists_begins (path ∷ paths) lists) in
    let chain : IsChain [] paths = chain_of_begins paths (subst (λ (x : List Step). BeginsListing (x ∷ paths)) root (lists_begins (path ∷ paths) lists)) in
    chain_sorted path paths i j p q (subst (λ (x : List Step). IsChain x paths) (sym root) chain) less one other

-- each path stands once
pub listed_once : (paths : List (List Step)) (i j : ℕ) (p : List Step) → IsListing paths → slice_get paths i ≡ Some p → slice_get paths j ≡ Some p → i ≡ j
listed_once paths i j p lists one other = elim (cases_order i j) [
  | inl same ↦ same
  | inr either ↦ elim either [
    | inl less ↦ absurd (path_irreflexive p (listing_sorted paths i j p p lists less one other))
    | inr more ↦ absurd (path_irreflexive p (listing_sorted paths j i p p lists more other one))
  ]
]

pub lane_not_before : (path : List Step) (s t : Step) → (StepBefore s t → ⊥) → s ≢ t → PathBefore (path ++ s ∷ []) (path ++ t ∷ []) → ⊥
lane_not_before [] s t not_before differs (inl less) = not_before less
lane_not_before [] s t not_before differs (inr (same, less)) = differs same
lane_not_before (x ∷ path) s t not_before differs (inl less) = not_before_itself x x refl less
lane_not_before (x ∷ path) s t not_before differs (inr (same, less)) = lane_not_before path s t not_before differs less
