-- How long the paths are of the tasks whose logs are handed on.
use Rattle.std.proofs.Common.{◌≡◌, ap, ℕ, zero, suc, ◌+◌, ◌≤◌, List, [], ◌∷◌, length, arith, subst}
use Rattle.std.specs.List.{flat_map}
use Rattle.std.proofs.lemmas.List.{length-append}
use Rattle.std.proofs.lemmas.List.Elements.{All-nil, All-cons, All-append}
use Rattle.sw_base.specs.declared.path.Step.{Step}
use Rattle.race_model.specs.Listing.{lane_of}
use Rattle.history_model.specs.Work.{Work, RegionWork, work_regions, lane_works}
use Rattle.lane_runner.specs.Handed.{HandedEntry, LogPlace, MaybeStop, TaskHands, RegionsHand, LanesHand, AreNoDeeper}
use Rattle.execution_laws.specs.Nesting.{NestsWithin, PhasesNest}
use Rattle.execution_laws.proofs.TaskListing.{RegionsNest, WorksNest, all_regions_nest, lane_nests}

abbrev IsWithinDepth : ℕ → HandedEntry → Type 0
IsWithinDepth n e = length e.task ≤ n

module _ (place : LogPlace) (stop : MaybeStop) where
  mutual
    task_within : (d : ℕ) (path : List Step) (works : List Work) (es : List HandedEntry) → TaskHands place stop path works es → WorksNest d works → AreNoDeeper (length path + d) es
    task_within d _ _ _ (TaskHands.given path works e below is hand) nest =
        All-cons (IsWithinDepth (length path + d)) e below (let same = ap (λ (p : List Step). length p) is.task in omega (arith, same))
        (regions_within d path 0 (flat_map work_regions works) below hand (all_regions_nest d works nest))
    task_within d _ _ _ (TaskHands.missing path works below none hand) nest = regions_within d path 0 (flat_map work_regions works) below hand (all_regions_nest d works nest)

    regions_within : (d : ℕ) (path : List Step) (number : ℕ) (regions : List RegionWork) (es : List HandedEntry) → RegionsHand place stop path number regions es → RegionsNest d regions → AreNoDeeper (length path + d) es
    regions_within d _ _ _ _ (RegionsHand.no_region path number) nest = All-nil (IsWithinDepth (length path + d))
    regions_within zero _ _ _ _ (RegionsHand.region path number first regions mine others lanes later) nest = absurd nest.0
    regions_within (suc d) _ _ _ _ (RegionsHand.region path number first regions mine others lanes later) nest =
        All-append (IsWithinDepth (length path + suc d)) mine others (lanes_within d path number first 0 first.span mine lanes nest.0.1)
        (regions_within (suc d) path (number + 1) regions others later nest.1)

    lanes_within : (d : ℕ) (path : List Step) (number : ℕ) (region : RegionWork) (lane left : ℕ) (es : List HandedEntry) → LanesHand place stop path number region lane left es → PhasesNest d region.phases
        → AreNoDeeper (length path + suc d) es
    lanes_within d _ _ _ _ _ _ (LanesHand.no_lane path number region lane) nest = All-nil (IsWithinDepth (length path + suc d))
    lanes_within d _ _ _ _ _ _ (LanesHand.lane path number region lane left mine others hand later) nest =
        let here = lane_of path number lane region.span in
        let longer = length-append path (record { region = number; lane = lane; span = region.span } ∷ []) in
        let same : length here + d ≡ length path + suc d = omega (arith, longer) in
        All-append (IsWithinDepth (length path + suc d)) mine others
        (subst (λ (n : ℕ). AreNoDeeper n mine) same (task_within d here (lane_works lane region.phases) mine hand (lane_nests d lane region.phases nest)))
        (lanes_within d path number region (suc lane) left others later nest)

  -- they have at most as many steps as regions nest
  pub root_within : (d : ℕ) (root : Work) (es : List HandedEntry) → TaskHands place stop [] (root ∷ []) es → NestsWithin d root → AreNoDeeper d es
  root_within d root es hand nests = subst (λ (n : ℕ). AreNoDeeper n es) (let e : 0 + d ≡ d = omega arith in e) (task_within d [] (root ∷ []) es hand (nests, tt))
