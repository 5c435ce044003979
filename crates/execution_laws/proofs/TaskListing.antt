-- The tasks of a tree of work, listed as the paths of a tree of tasks.
use Rattle.std.proofs.Common.{◌≡◌, refl, ap, sym, ◌∙◌, subst, ℕ, zero, suc, ◌+◌, ◌<◌, ◌≤◌, arith, Bool, true, false, cond, List, [], ◌∷◌, ◌++◌, length, map, slice_get, Option, Some, None}
use Rattle.std.specs.Prelude.{◌==◌}
use Rattle.std.specs.List.{flat_map}
use Rattle.std.proofs.lemmas.List.{map-append}
use Rattle.std.proofs.lemmas.Option.{same_Some}
use Rattle.sw_base.specs.declared.path.Step.{Step}
use Rattle.race_model.specs.Trace.{TaskLog, Trace}
use Rattle.race_model.specs.Listing.{Task, Ends, Forks, Lanes, NoLane, Lane, lane_count, lane_of, under, lanes, IsListing}
use Rattle.kernel_model.specs.Folder.{paths_of}
use Rattle.history_model.specs.Work.{Work, Rest, Put, Fork, Phases, NoPhase, Phase, TeamWork, NoWork, Beside, RegionWork, work_records, work_regions, work_at, lane_works, works_at_region, works_under}
use Rattle.history_model.specs.Tasks.{lane_tasks, region_tasks, tasks_from, tree_tasks}
use Rattle.execution_model.specs.Runs.{IsWithin, as_logged, logged_tasks}
use Rattle.execution_laws.specs.Nesting.{NestsWithin, PhasesNest, TeamNests}

-- ---- regions

abbrev pub RegionNests : ℕ → RegionWork → Type 0
RegionNests zero region = ⊥
RegionNests (suc d) region = (1 ≤ region.span) × PhasesNest d region.phases

abbrev pub RegionsNest : ℕ → List RegionWork → Type 0
RegionsNest d [] = Unit {0}
RegionsNest d (region ∷ regions) = RegionNests d region × RegionsNest d regions

abbrev pub WorksNest : ℕ → List Work → Type 0
WorksNest d [] = Unit {0}
WorksNest d (work ∷ works) = NestsWithin d work × WorksNest d works

regions_nest : (d : ℕ) (work : Work) (others : List RegionWork) → NestsWithin d work → RegionsNest d others → RegionsNest d (work_regions work ++ others)
regions_nest d Rest others nests rest = rest
regions_nest d (Put r more) others nests rest = regions_nest d more others nests rest
regions_nest zero (Fork line span phases more) others nests rest = absurd nests
regions_nest (suc d) (Fork line span phases more) others nests rest = ((nests.0, nests.1), regions_nest (suc d) more others nests.2 rest)

pub all_regions_nest : (d : ℕ) (works : List Work) → WorksNest d works → RegionsNest d (flat_map work_regions works)
all_regions_nest d [] nest = tt
all_regions_nest d (work ∷ works) nest = regions_nest d work (flat_map work_regions works) nest.0 (all_regions_nest d works nest.1)

at_nest : (d lane : ℕ) (team : TeamWork) (others : List Work) → TeamNests d team → WorksNest d others → WorksNest d (work_at lane team ++ others)
at_nest d lane NoWork others nests rest = rest
at_nest d zero (Beside work team) others nests rest = (nests.0, rest)
at_nest d (suc lane) (Beside work team) others nests rest = at_nest d lane team others nests.1 rest

pub lane_nests : (d lane : ℕ) (phases : Phases) → PhasesNest d phases → WorksNest d (lane_works lane phases)
lane_nests d lane NoPhase nests = tt
lane_nests d lane (Phase team later) nests = at_nest d lane team (lane_works lane later) nests.0 (lane_nests d lane later nests.1)

abbrev regions_of : ℕ → Phases → List RegionWork
regions_of lane phases = flat_map work_regions (lane_works lane phases)

-- ---- the tree of tasks

-- lanes, each with the task that it is
abbrev lanes_with : (ℕ → Task) → ℕ → ℕ → Lanes
lanes_with task lane zero = NoLane
lanes_with task lane (suc left) = Lane (task lane) (lanes_with task (suc lane) left)

abbrev forked_with : (ℕ → Task) → ℕ → Task → Task
forked_with task zero after = after
forked_with task (suc others) after = Forks (task 0) (lanes_with task 1 others) after

abbrev task_of : ℕ → List RegionWork → Task
task_of d [] = Ends
task_of zero (region ∷ regions) = Ends
task_of (suc d) (region ∷ regions) = forked_with (λ lane. task_of d (regions_of lane region.phases)) region.span (task_of (suc d) regions)

abbrev lane_task : ℕ → Phases → ℕ → Task
lane_task d phases lane = task_of d (regions_of lane phases)

count_is : (task : ℕ → Task) (lane left : ℕ) → lane_count (lanes_with task lane left) ≡ left
count_is task lane zero = refl
count_is task lane (suc left) = let rest = count_is task (suc lane) left in omega arith

paths_append : (xs ys : Trace) → paths_of (xs ++ ys) ≡ paths_of xs ++ paths_of ys
paths_append xs ys = map-append (λ (task : TaskLog). task.path) xs ys

-- the lanes of a region, where each lane is listed with all tasks below it
module _ (d : ℕ) (path : List Step) (g span : ℕ) (phases : Phases)
    (below : (here : List Step) (lane : ℕ) → paths_of (tasks_from (suc d) here (lane_works lane phases)) ≡ here ∷ under here 0 (lane_task d phases lane)) where
  lanes_listed : (lane left : ℕ) → paths_of (lane_tasks (tasks_from (suc d)) path g span phases lane left) ≡ lanes path g lane span (lanes_with (lane_task d phases) lane left)
  lanes_listed lane zero = refl
  lanes_listed lane (suc left) =
      let here = lane_of path g lane span in
      let next : suc lane ≡ lane + 1 = omega arith in
      paths_append (tasks_from (suc d) here (lane_works lane phases)) (lane_tasks (tasks_from (suc d)) path g span phases (suc lane) left)
      ∙ ap (λ (l : List (List Step)). l ++ paths_of (lane_tasks (tasks_from (suc d)) path g span phases (suc lane) left)) (below here lane)
      ∙ ap (λ (l : List (List Step)). (here ∷ under here 0 (lane_task d phases lane)) ++ l) (lanes_listed (suc lane) left)
      ∙ ap (λ (n : ℕ). (here ∷ under here 0 (lane_task d phases lane)) ++ lanes path g n span (lanes_with (lane_task d phases) (suc lane) left)) next

-- a region, and what the task forks after it
region_listed : (d : ℕ) (path : List Step) (g span : ℕ) (phases : Phases) (after : Task) → 1 ≤ span →
    ((here : List Step) (lane : ℕ) → paths_of (tasks_from (suc d) here (lane_works lane phases)) ≡ here ∷ under here 0 (lane_task d phases lane)) →
    paths_of (lane_tasks (tasks_from (suc d)) path g span phases 0 span) ++ under path (g + 1) after ≡ under path g (forked_with (lane_task d phases) span after)
region_listed d path g zero phases after some below = absurd (omega arith)
region_listed d path g (suc others) phases after some below =
    let count = count_is (lane_task d phases) 1 others in
    let span_is : suc others ≡ 1 + lane_count (lanes_with (lane_task d phases) 1 others) = omega arith in
    let first = lane_of path g 0 (suc others) in
    let listed = first ∷ under first 0 (lane_task d phases 0) in
    ap (λ (l : List (List Step)). l ++ under path (g + 1) after)
    (paths_append (tasks_from (suc d) first (lane_works 0 phases)) (lane_tasks (tasks_from (suc d)) path g (suc others) phases 1 others)
    ∙ ap (λ (l : List (List Step)). l ++ paths_of (lane_tasks (tasks_from (suc d)) path g (suc others) phases 1 others)) (below first 0)
    ∙ ap (λ (l : List (List Step)). listed ++ l) (lanes_listed d path g (suc others) phases below 1 others))
    ∙ ap (λ (n : ℕ). (lane_of path g 0 n ∷ under (lane_of path g 0 n) 0 (lane_task d phases 0)) ++ lanes path g 1 n (lanes_with (lane_task d phases) 1 others) ++ under path (g + 1) after) span_is

regions_listed : (d : ℕ) (path : List Step) (g : ℕ) (regions : List RegionWork) → RegionsNest d regions →
    paths_of (region_tasks (tasks_from d) path g regions) ≡ under path g (task_of d regions)
regions_listed d path g [] nest = refl
regions_listed zero path g (region ∷ regions) nest = absurd nest.0
regions_listed (suc d) path g (region ∷ regions) nest =
    paths_append (lane_tasks (tasks_from (suc d)) path g region.span region.phases 0 region.span) (region_tasks (tasks_from (suc d)) path (g + 1) regions)
    ∙ ap (λ (l : List (List Step)). paths_of (lane_tasks (tasks_from (suc d)) path g region.span region.phases 0 region.span) ++ l)
    (regions_listed (suc d) path (g + 1) regions nest.1)
    ∙ region_listed d path g region.span region.phases (task_of (suc d) regions) nest.0.0
    (λ here lane. ap (λ (l : List (List Step)). here ∷ l)
    (regions_listed d here 0 (regions_of lane region.phases) (all_regions_nest d (lane_works lane region.phases) (lane_nests d lane region.phases nest.0.1))))

task_listed : (d : ℕ) (path : List Step) (works : List Work) → WorksNest d works →
    paths_of (tasks_from (suc d) path works) ≡ path ∷ under path 0 (task_of d (flat_map work_regions works))
task_listed d path works nest = ap (λ (l : List (List Step)). path ∷ l) (regions_listed d path 0 (flat_map work_regions works) (all_regions_nest d works nest))

logged_paths : (tasks : Trace) → paths_of (map as_logged tasks) ≡ paths_of tasks
logged_paths [] = refl
logged_paths (task ∷ tasks) = ap (λ (l : List (List Step)). task.path ∷ l) (logged_paths tasks)

pub are_listed : (depth : ℕ) (root : Work) → NestsWithin depth root → IsListing (paths_of (logged_tasks depth root))
are_listed depth root nests = record {
  root = task_of depth (flat_map work_regions (root ∷ []));
  lists = sym (logged_paths (tree_tasks depth root) ∙ task_listed depth [] (root ∷ []) (nests, tt));
}

-- ---- depth

none_under : (path : List Step) → works_under [] path ≡ []
none_under [] = refl
none_under (step ∷ path) = none_under path

pub found_nests : (d : ℕ) (regions : List RegionWork) (k : ℕ) (region : RegionWork) → RegionsNest d regions → slice_get regions k ≡ Some region → RegionNests d region
found_nests d [] k region nest found = absurd cc
found_nests d (first ∷ regions) zero region nest found = subst (RegionNests d) (same_Some first region found) nest.0
found_nests d (first ∷ regions) (suc k) region nest found = found_nests d regions k region nest.1 found

pub lane_of_region_nests : (d : ℕ) (step : Step) (region : RegionWork) → PhasesNest d region.phases → WorksNest d (works_at_region step (Some region))
lane_of_region_nests d step region nests = by (region.span == step.span)
  where
    by : (b : Bool) → WorksNest d (cond b (lane_works step.lane region.phases) [])
    by true = lane_nests d step.lane region.phases nests
    by false = tt

deep_below : (path : List Step) (step : Step) (d : ℕ) (o : Option RegionWork) → d < length (step ∷ path) → ((region : RegionWork) → o ≡ Some region → RegionNests d region) →
    ((e : ℕ) (works : List Work) → WorksNest e works → e < length path → works_under works path ≡ []) → works_under (works_at_region step o) path ≡ []
deep_below path step d None deep nests later = none_under path
deep_below path step zero (Some region) deep nests later = absurd (nests region refl)
deep_below path step (suc d) (Some region) deep nests later = later d (works_at_region step (Some region)) (lane_of_region_nests d step region (nests region refl).1) (omega arith)

-- no task lies deeper than the regions nest
deep_under : (path : List Step) (d : ℕ) (works : List Work) → WorksNest d works → d < length path → works_under works path ≡ []
deep_under [] d works nest deep = absurd (omega arith)
deep_under (step ∷ path) d works nest deep =
    deep_below path step d (slice_get (flat_map work_regions works) step.region) deep
    (λ region found. found_nests d (flat_map work_regions works) step.region region (all_regions_nest d works nest) found)
    (λ e others nests lower. deep_under path e others nests lower)

pub are_within : (depth : ℕ) (root : Work) → NestsWithin depth root → IsWithin depth root
are_within depth root nests path deep = ap (λ (works : List Work). flat_map work_records works) (deep_under path depth (root ∷ []) (nests, tt) deep)
