-- What a listing of a tree of tasks tells of its paths: each task's task above and the lanes beside it are listed, and each
-- task's regions are numbered from 0, each of one span.
use Rattle.std.proofs.Common.{◌≡◌, ℕ, zero, suc, ◌<◌, List, [], ◌∷◌, ◌++◌, length, Some, refl, sym, ap, subst, ◌∙◌, arith, get_or}
use Rattle.std.specs.Prelude.{slice_get, Contains, map, option_map}
use Rattle.std.proofs.lemmas.List.{same_from_push}
use Rattle.std.proofs.lemmas.Option.{same_Some, slice_get-map, slice_get-get_or}
use Rattle.sw_base.specs.declared.path.Step.{Step}
use Rattle.race_model.specs.Listing.{Task, Ends, Forks, listing, lane_of, IsListing}
use Rattle.race_laws.proofs.LabelPlace.{not_both_empty}
use Rattle.race_laws.proofs.ListedTree.{lanes_of, regions_of, IsChild, IsAt, top, below, HasTask, listed_there, there_listed}

-- a path with a step is that of a child
record IsStepOf (root : Task) (path : List Step) (step : Step) (child : Task) : Type 0 where
  over : Task
  is_at : IsAt root path over
  is_child : IsChild over 0 step child

step_of : (root : Task) (path whole : List Step) (step : Step) (child : Task) → IsAt root whole child → whole ≡ path ++ step ∷ [] → IsStepOf root path step child
step_of root path whole step child (IsAt.top path1 task1 e f) same = absurd (not_both_empty whole path step e same)
step_of root path whole step child (IsAt.below above path1 over task1 last up is e) same =
    let both = same_from_push above path last step (sym e ∙ same) in
    record {
      over = over;
      is_at = subst (λ (p : List Step). IsAt root p over) both.0 up;
      is_child = subst (λ (s : Step). IsChild over 0 s child) both.1 is;
    }

-- at a path there is one task
same_lanes : (task : Task) (step : Step) (u v : Task) → (a : IsChild task 0 step u) → (b : IsChild task 0 step v) → a.tasks ≡ b.tasks
same_lanes task step u v a b =
    let number : b.number ≡ a.number = omega (arith, a.region_is, b.region_is) in
    same_Some a.tasks b.tasks (sym a.found ∙ (ap (λ (n : ℕ). slice_get (regions_of task) n) (sym number) ∙ b.found))

child_once : (task : Task) (step : Step) (u v : Task) → IsChild task 0 step u → IsChild task 0 step v → u ≡ v
child_once task step u v a b =
    same_Some u v (sym a.lane_is ∙ (ap (λ (ts : List Task). slice_get ts step.lane) (same_lanes task step u v a b) ∙ b.lane_is))

at_once : (root : Task) (p q : List Step) (t u : Task) → IsAt root p t → IsAt root q u → p ≡ q → t ≡ u
at_once root p q t u (IsAt.top p1 t1 e f) (IsAt.top q1 u1 g h) same = f ∙ sym h
at_once root p q t u (IsAt.top p1 t1 e f) (IsAt.below above q1 over u1 step up is g) same = absurd (not_both_empty p above step e (same ∙ g))
at_once root p q t u (IsAt.below above p1 over t1 step up is e) (IsAt.top q1 u1 g h) same = absurd (not_both_empty q above step g (sym same ∙ e))
at_once root p q t u (IsAt.below a p1 over t1 s up is e) (IsAt.below b q1 other u1 r also isn g) same =
    let both = same_from_push a b s r (sym e ∙ (same ∙ g)) in
    let tasks : over ≡ other = at_once root a b over other up also both.0 in
    child_once over s t u is (subst (λ (o : Task). IsChild o 0 s u) (sym tasks) (subst (λ (x : Step). IsChild other 0 x u) (sym both.1) isn))

-- the task above a listed one is listed
pub above_listed : (paths : List (List Step)) (path : List Step) (step : Step) → IsListing paths → Contains paths (path ++ step ∷ []) → Contains paths path
above_listed paths path step is listed = subst (λ (ps : List (List Step)). Contains ps path) is.lists (at (listed_there is.root (path ++ step ∷ []) (subst (λ (ps : List (List Step)). Contains ps (path ++ step ∷ [])) (sym is.lists) listed)))
  where
    at : HasTask is.root (path ++ step ∷ []) → Contains (listing is.root) path
    at has = let found = step_of is.root path _ step has.task has.is_at refl in there_listed is.root path found.over found.is_at

-- and so are the lanes beside it
pub beside_listed : (paths : List (List Step)) (path : List Step) (region lane other span : ℕ) → IsListing paths → Contains paths (lane_of path region lane span) → other < span
    → Contains paths (lane_of path region other span)
beside_listed paths path region lane other span is listed within =
    subst (λ (ps : List (List Step)). Contains ps (lane_of path region other span)) is.lists (at (listed_there is.root _ (subst (λ (ps : List (List Step)). Contains ps (lane_of path region lane span)) (sym is.lists) listed)))
  where
    go : (over child : Task) → IsAt is.root path over → (c : IsChild over 0 (record { region = region; lane = lane; span = span }) child) → Contains (listing is.root) (lane_of path region other span)
    go over child up c =
        let short : other < length c.tasks = omega (arith, c.span_is) in
        let beside : Task = get_or c.tasks other child in
        there_listed is.root _ beside
        (below path _ over beside (record { region = region; lane = other; span = span }) up
        (record { tasks = c.tasks; number = c.number; region_is = c.region_is; found = c.found; span_is = c.span_is; lane_is = slice_get-get_or c.tasks other child short }) refl)

    at : HasTask is.root (lane_of path region lane span) → Contains (listing is.root) (lane_of path region other span)
    at has = let found = step_of is.root path _ (record { region = region; lane = lane; span = span }) has.task has.is_at refl in go found.over has.task found.is_at found.is_child

-- the root is listed
pub root_listed : (paths : List (List Step)) → IsListing paths → Contains paths []
root_listed paths is = subst (λ (ps : List (List Step)). Contains ps []) is.lists (there_listed is.root [] is.root (top [] is.root refl refl))

-- the spans of a listed task's regions
pub record AreSpans (paths : List (List Step)) (path : List Step) (spans : List ℕ) : Type 0 where
  pub listed : (region lane span : ℕ) → Contains paths (lane_of path region lane span) → slice_get spans region ≡ Some span
  pub lists : (region span : ℕ) → slice_get spans region ≡ Some span → Contains paths (lane_of path region 0 span)

pub record HasSpans (paths : List (List Step)) (path : List Step) : Type 0 where
  pub spans : List ℕ
  pub are : AreSpans paths path spans

-- each region has a first lane
record HasFirst (tasks : List Task) : Type 0 where
  first : Task
  found : slice_get tasks 0 ≡ Some first

first_lane : (task : Task) (number : ℕ) (tasks : List Task) → slice_get (regions_of task) number ≡ Some tasks → HasFirst tasks
first_lane Ends number tasks found = cc
first_lane (Forks first others after) zero tasks found =
    subst HasFirst (same_Some (first ∷ lanes_of others) tasks found) (record { first = first; found = refl })
first_lane (Forks first others after) (suc number) tasks found = first_lane after number tasks found

-- the region of this number, if it has this span
has_region : (regions : List (List Task)) (region span : ℕ) → slice_get (map (λ ts. length ts) regions) region ≡ Some span
    → (tasks : List Task) × (slice_get regions region ≡ Some tasks) × (span ≡ length tasks)
has_region [] region span found = cc
has_region (ts ∷ regions) zero span found = (ts, refl, sym (same_Some (length ts) span found))
has_region (ts ∷ regions) (suc region) span found = has_region regions region span found

pub spans_listed : (paths : List (List Step)) (path : List Step) → IsListing paths → Contains paths path → HasSpans paths path
spans_listed paths path is listed = subst (λ (ps : List (List Step)). HasSpans ps path) is.lists (at (listed_there is.root path (subst (λ (ps : List (List Step)). Contains ps path) (sym is.lists) listed)))
  where
    is_listed : (task : Task) → IsAt is.root path task → (region lane span : ℕ) → Contains (listing is.root) (lane_of path region lane span) → slice_get (map (λ ts. length ts) (regions_of task)) region ≡ Some span
    is_listed task here region lane span there =
        let has = listed_there is.root (lane_of path region lane span) there in
        let found = step_of is.root path _ (record { region = region; lane = lane; span = span }) has.task has.is_at refl in
        let same : found.over ≡ task = at_once is.root path path found.over task found.is_at here refl in
        let c : IsChild task 0 (record { region = region; lane = lane; span = span }) has.task = subst (λ (o : Task). IsChild o 0 (record { region = region; lane = lane; span = span }) has.task) same found.is_child in
        let number : c.number ≡ region = omega (arith, c.region_is) in
        slice_get-map (λ ts. length ts) (regions_of task) region
        ∙ (ap (λ o. option_map (λ ts. length ts) o) (ap (λ n. slice_get (regions_of task) n) (sym number) ∙ c.found) ∙ ap (λ (n : ℕ). Some n) (sym c.span_is))

    it_lists : (task : Task) → IsAt is.root path task → (region span : ℕ) → slice_get (map (λ ts. length ts) (regions_of task)) region ≡ Some span → Contains (listing is.root) (lane_of path region 0 span)
    it_lists task here region span found = go (has_region (regions_of task) region span found)
      where
        go : (tasks : List Task) × (slice_get (regions_of task) region ≡ Some tasks) × (span ≡ length tasks) → Contains (listing is.root) (lane_of path region 0 span)
        go (tasks, there, count) =
            let first = first_lane task region tasks there in
            there_listed is.root _ first.first
            (below path _ task first.first (record { region = region; lane = 0; span = span }) here
            (record { tasks = tasks; number = region; region_is = omega arith; found = there; span_is = count; lane_is = first.found }) refl)

    at : HasTask is.root path → HasSpans (listing is.root) path
    at has = record { spans = map (λ ts. length ts) (regions_of has.task); are = record { listed = is_listed has.task has.is_at; lists = it_lists has.task has.is_at } }
