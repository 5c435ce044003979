-- The logs of a task and of all below it are those of the tasks of a tree of work.
use Rattle.std.proofs.Common.{◌≡◌, refl, ap, sym, ◌∙◌, subst, ℕ, zero, suc, ◌+◌, ◌<◌, ◌≤◌, List, [], ◌∷◌, ◌++◌, length, map, append_assoc, arith}
use Rattle.std.specs.List.{flat_map}
use Rattle.std.proofs.lemmas.List.{map-append, length-append}
use Rattle.std.proofs.lemmas.List.Elements.{All-nil, All-cons, All-head, All-tail, All-append}
use Rattle.std.specs.Prelude.{All}
use Rattle.sw_base.specs.declared.path.Step.{Step}
use Rattle.sw_base.specs.Names.{IsUnder}
use Rattle.race_model.specs.Trace.{Trace}
use Rattle.race_model.specs.Listing.{lane_of}
use Rattle.history_model.specs.Work.{Work, RegionWork, work_records, work_regions, lane_works}
use Rattle.history_model.specs.Tasks.{lane_tasks, region_tasks, tasks_from}
use Rattle.execution_model.specs.Runs.{as_logged, logged_tasks}
use Rattle.lane_runner.specs.Handed.{HandedEntry, LogPlace, MaybeStop, TaskHands, RegionsHand, LanesHand, AreEntriesOf, AreNoDeeper}

within_first : (n : ℕ) (es fs : List HandedEntry) → AreNoDeeper n (es ++ fs) → AreNoDeeper n es
within_first n [] fs all = All-nil (λ (e : HandedEntry). length e.task ≤ n)
within_first n (e ∷ es) fs all =
    All-cons (λ (x : HandedEntry). length x.task ≤ n) e es (All-head (λ (x : HandedEntry). length x.task ≤ n) e (es ++ fs) all)
    (within_first n es fs (All-tail (λ (x : HandedEntry). length x.task ≤ n) e (es ++ fs) all))

within_last : (n : ℕ) (es fs : List HandedEntry) → AreNoDeeper n (es ++ fs) → AreNoDeeper n fs
within_last n [] fs all = all
within_last n (e ∷ es) fs all = within_last n es fs (All-tail (λ (x : HandedEntry). length x.task ≤ n) e (es ++ fs) all)

deeper : (path : List Step) (number lane span : ℕ) → length (lane_of path number lane span) ≡ length path + 1
deeper path number lane span = length-append path (record { region = number; lane = lane; span = span } ∷ [])

module _ (place : LogPlace) (stop : MaybeStop) where
  entries_both : (xs ys : Trace) (es fs : List HandedEntry) → AreEntriesOf place stop xs es → AreEntriesOf place stop ys fs → AreEntriesOf place stop (xs ++ ys) (es ++ fs)
  entries_both _ ys _ fs AreEntriesOf.no_task later = later
  entries_both _ ys _ fs (AreEntriesOf.given task tasks e es is rest) later = AreEntriesOf.given task (tasks ++ ys) e (es ++ fs) is (entries_both tasks ys es fs rest later)
  entries_both _ ys _ fs (AreEntriesOf.missing task tasks es none rest) later = AreEntriesOf.missing task (tasks ++ ys) (es ++ fs) none (entries_both tasks ys es fs rest later)

  -- where all paths are shorter, nothing is handed on
  mutual
    task_deep : (n : ℕ) (path : List Step) (works : List Work) (es : List HandedEntry) → TaskHands place stop path works es → n < length path → AreNoDeeper n es → es ≡ []
    task_deep n _ _ _ (TaskHands.given path works e below is hand) deep within =
        absurd (let least = All-head (λ (x : HandedEntry). length x.task ≤ n) e below within in let same = ap (λ (p : List Step). length p) is.task in omega (arith, least, same))
    task_deep n _ _ _ (TaskHands.missing path works below none hand) deep within = regions_deep n path 0 (flat_map work_regions works) below hand deep within

    regions_deep : (n : ℕ) (path : List Step) (number : ℕ) (regions : List RegionWork) (es : List HandedEntry) → RegionsHand place stop path number regions es → n < length path → AreNoDeeper n es → es ≡ []
    regions_deep n _ _ _ _ (RegionsHand.no_region path number) deep within = refl
    regions_deep n _ _ _ _ (RegionsHand.region path number first regions mine others lanes later) deep within =
        ap (λ (es : List HandedEntry). es ++ others) (lanes_deep n path number first 0 first.span mine lanes deep (within_first n mine others within))
        ∙ regions_deep n path (number + 1) regions others later deep (within_last n mine others within)

    lanes_deep : (n : ℕ) (path : List Step) (number : ℕ) (region : RegionWork) (lane left : ℕ) (es : List HandedEntry) → LanesHand place stop path number region lane left es → n < length path → AreNoDeeper n es → es ≡ []
    lanes_deep n _ _ _ _ _ _ (LanesHand.no_lane path number region lane) deep within = refl
    lanes_deep n _ _ _ _ _ _ (LanesHand.lane path number region lane left mine others hand later) deep within =
        ap (λ (es : List HandedEntry). es ++ others)
        (task_deep n (lane_of path number lane region.span) (lane_works lane region.phases) mine hand (let longer = deeper path number lane region.span in omega (arith, longer)) (within_first n mine others within))
        ∙ lanes_deep n path number region (suc lane) left others later deep (within_last n mine others within)

  mutual
    task_listed : (depth : ℕ) (path : List Step) (works : List Work) (es : List HandedEntry) → TaskHands place stop path works es → AreNoDeeper (length path + depth) es
        → AreEntriesOf place stop (map as_logged (tasks_from (suc depth) path works)) es
    task_listed depth _ _ _ (TaskHands.given path works e below is hand) within =
        AreEntriesOf.given (as_logged (record { path = path; records = flat_map work_records works })) (map as_logged (region_tasks (tasks_from depth) path 0 (flat_map work_regions works))) e below is
        (regions_listed depth path 0 (flat_map work_regions works) below hand (All-tail (λ (x : HandedEntry). length x.task ≤ length path + depth) e below within))
    task_listed depth _ _ _ (TaskHands.missing path works below none hand) within =
        AreEntriesOf.missing (as_logged (record { path = path; records = flat_map work_records works })) (map as_logged (region_tasks (tasks_from depth) path 0 (flat_map work_regions works))) below none
        (regions_listed depth path 0 (flat_map work_regions works) below hand within)

    regions_listed : (depth : ℕ) (path : List Step) (number : ℕ) (regions : List RegionWork) (es : List HandedEntry) → RegionsHand place stop path number regions es → AreNoDeeper (length path + depth) es
        → AreEntriesOf place stop (map as_logged (region_tasks (tasks_from depth) path number regions)) es
    regions_listed depth _ _ _ _ (RegionsHand.no_region path number) within = AreEntriesOf.no_task
    regions_listed depth _ _ _ _ (RegionsHand.region path number first regions mine others lanes later) within =
        let these = lane_tasks (tasks_from depth) path number first.span first.phases 0 first.span in
        let those = region_tasks (tasks_from depth) path (number + 1) regions in
        subst (λ (ts : Trace). AreEntriesOf place stop ts (mine ++ others)) (sym (map-append as_logged these those))
        (entries_both (map as_logged these) (map as_logged those) mine others
        (lanes_listed depth path number first 0 first.span mine lanes (within_first (length path + depth) mine others within))
        (regions_listed depth path (number + 1) regions others later (within_last (length path + depth) mine others within)))

    lanes_listed : (depth : ℕ) (path : List Step) (number : ℕ) (region : RegionWork) (lane left : ℕ) (es : List HandedEntry) → LanesHand place stop path number region lane left es → AreNoDeeper (length path + depth) es
        → AreEntriesOf place stop (map as_logged (lane_tasks (tasks_from depth) path number region.span region.phases lane left)) es
    lanes_listed depth _ _ _ _ _ _ (LanesHand.no_lane path number region lane) within = AreEntriesOf.no_task
    lanes_listed zero _ _ _ _ _ _ (LanesHand.lane path number region lane left mine others hand later) within =
        let none = task_deep (length path + 0) (lane_of path number lane region.span) (lane_works lane region.phases) mine hand
        (let longer = deeper path number lane region.span in omega (arith, longer)) (within_first (length path + 0) mine others within) in
        subst (λ (es : List HandedEntry). AreEntriesOf place stop (map as_logged (lane_tasks (tasks_from zero) path number region.span region.phases (suc lane) left)) (es ++ others)) (sym none)
        (lanes_listed zero path number region (suc lane) left others later (within_last (length path + 0) mine others within))
    lanes_listed (suc d) _ _ _ _ _ _ (LanesHand.lane path number region lane left mine others hand later) within =
        let here = lane_of path number lane region.span in
        let this = tasks_from (suc d) here (lane_works lane region.phases) in
        let those = lane_tasks (tasks_from (suc d)) path number region.span region.phases (suc lane) left in
        let same : length path + suc d ≡ length here + d = let longer = deeper path number lane region.span in omega (arith, longer) in
        subst (λ (ts : Trace). AreEntriesOf place stop ts (mine ++ others)) (sym (map-append as_logged this those))
        (entries_both (map as_logged this) (map as_logged those) mine others
        (task_listed d here (lane_works lane region.phases) mine hand (subst (λ (n : ℕ). AreNoDeeper n mine) same (within_first (length path + suc d) mine others within)))
        (lanes_listed (suc d) path number region (suc lane) left others later (within_last (length path + suc d) mine others within)))

  pub tree_listed : (depth : ℕ) (root : Work) (es : List HandedEntry) → TaskHands place stop [] (root ∷ []) es → AreNoDeeper depth es → AreEntriesOf place stop (logged_tasks depth root) es
  tree_listed depth root es hand within = task_listed depth [] (root ∷ []) es hand (subst (λ (n : ℕ). AreNoDeeper n es) (let e : depth ≡ 0 + depth = omega arith in e) within)

-- ---- below a task

abbrev AreUnder : List Step → List HandedEntry → Type 0
AreUnder path entries = All (λ (e : HandedEntry). IsUnder e.task path) entries

under_lane : (path : List Step) (number lane span : ℕ) (es : List HandedEntry) → AreUnder (lane_of path number lane span) es → AreUnder path es
under_lane path number lane span [] all = All-nil (λ (e : HandedEntry). IsUnder e.task path)
under_lane path number lane span (e ∷ es) all =
    let here = lane_of path number lane span in
    let step : Step = record { region = number; lane = lane; span = span } in
    let first = All-head (λ (x : HandedEntry). IsUnder x.task here) e es all in
    All-cons (λ (x : HandedEntry). IsUnder x.task path) e es
    (record { first = step; rest = first.first ∷ first.rest; parts = first.parts ∙ append_assoc path (step ∷ []) (first.first ∷ first.rest) })
    (under_lane path number lane span es (All-tail (λ (x : HandedEntry). IsUnder x.task here) e es all))

module _ (place : LogPlace) (stop : MaybeStop) where
  mutual
    task_under : (path here : List Step) (number lane span : ℕ) (works : List Work) (es : List HandedEntry) → TaskHands place stop here works es → here ≡ lane_of path number lane span → AreUnder path es
    task_under path _ number lane span _ _ (TaskHands.given here works e below is hand) same =
        All-cons (λ (x : HandedEntry). IsUnder x.task path) e below
        (record { first = record { region = number; lane = lane; span = span }; rest = []; parts = is.task ∙ same })
        (under_lane path number lane span below (subst (λ (p : List Step). AreUnder p below) same (regions_under here 0 (flat_map work_regions works) below hand)))
    task_under path _ number lane span _ _ (TaskHands.missing here works below none hand) same =
        under_lane path number lane span below (subst (λ (p : List Step). AreUnder p below) same (regions_under here 0 (flat_map work_regions works) below hand))

    pub regions_under : (path : List Step) (number : ℕ) (regions : List RegionWork) (es : List HandedEntry) → RegionsHand place stop path number regions es → AreUnder path es
    regions_under _ _ _ _ (RegionsHand.no_region path number) = All-nil (λ (e : HandedEntry). IsUnder e.task path)
    regions_under _ _ _ _ (RegionsHand.region path number first regions mine others lanes later) =
        All-append (λ (e : HandedEntry). IsUnder e.task path) mine others (lanes_under path number first 0 first.span mine lanes) (regions_under path (number + 1) regions others later)

    lanes_under : (path : List Step) (number : ℕ) (region : RegionWork) (lane left : ℕ) (es : List HandedEntry) → LanesHand place stop path number region lane left es → AreUnder path es
    lanes_under _ _ _ _ _ _ (LanesHand.no_lane path number region lane) = All-nil (λ (e : HandedEntry). IsUnder e.task path)
    lanes_under _ _ _ _ _ _ (LanesHand.lane path number region lane left mine others hand later) =
        All-append (λ (e : HandedEntry). IsUnder e.task path) mine others
        (task_under path (lane_of path number lane region.span) number lane region.span (lane_works lane region.phases) mine hand refl)
        (lanes_under path number region (suc lane) left others later)
