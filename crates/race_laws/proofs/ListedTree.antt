-- The tasks of a tree by their paths: a path is listed exactly where the tree has a task there.
use Rattle.std.proofs.Common.{◌≡◌, ◌⊎◌, inl, inr, ℕ, zero, suc, ◌+◌, List, [], ◌∷◌, ◌++◌, length, Some, refl, sym, ap, subst, ◌∙◌, arith}
use Rattle.std.specs.Prelude.{slice_get, Contains}
use Rattle.std.proofs.lemmas.List.Elements.{Contains-append_left, Contains-append_right, Contains-append_cases}
use Rattle.std.proofs.lemmas.Option.{same_Some}
use Rattle.sw_base.specs.declared.path.Step.{Step}
use Rattle.sw_base.proofs.Lists.{contains_later, contains_either}
use Rattle.race_model.specs.Listing.{Task, Lanes, Ends, Forks, NoLane, Lane, lane_count, lane_of, under, lanes, listing}

-- the lanes that follow, and all lanes of each region
abbrev pub lanes_of : Lanes → List Task
lanes_of NoLane = []
lanes_of (Lane first others) = first ∷ lanes_of others

abbrev pub regions_of : Task → List (List Task)
regions_of Ends = []
regions_of (Forks first others after) = (first ∷ lanes_of others) ∷ regions_of after

lanes_counted : (others : Lanes) → length (lanes_of others) ≡ lane_count others
lanes_counted NoLane = refl
lanes_counted (Lane first others) = omega (arith, lanes_counted others)

-- the step leads from the task, whose regions are numbered from this one, to the child
pub record IsChild (task : Task) (region : ℕ) (step : Step) (child : Task) : Type 0 where
  pub tasks : List Task
  pub number : ℕ
  pub region_is : step.region ≡ region + number
  pub found : slice_get (regions_of task) number ≡ Some tasks
  pub span_is : step.span ≡ length tasks
  pub lane_is : slice_get tasks step.lane ≡ Some child

-- the task of the tree at a path
pub data IsAt (root : Task) : List Step → Task → Type 0 where
  top : (path : List Step) (task : Task) → path ≡ [] → task ≡ root → IsAt root path task
  below : (above path : List Step) (over task : Task) (step : Step) → IsAt root above over → IsChild over 0 step task → path ≡ above ++ step ∷ [] → IsAt root path task

pub record HasTask (root : Task) (path : List Step) : Type 0 where
  pub task : Task
  pub is_at : IsAt root path task

contains_first : {X : Type 0} (x : X) (xs : List X) (y : X) → x ≡ y → Contains (x ∷ xs) y
contains_first x xs y e = (0, omega arith, e)

-- what is listed is there
there_below : (root whole child : Task) (path p : List Step) (step : Step) → IsAt root path whole → IsChild whole 0 step child → path ++ step ∷ [] ≡ p → HasTask root p
there_below root whole child path p step at is_child e = record { task = child; is_at = below path p whole child step at is_child (sym e) }

first_child : (first : Task) (others : Lanes) (after : Task) (region : ℕ) → IsChild (Forks first others after) region (record { region = region; lane = 0; span = 1 + lane_count others }) first
first_child first others after region = record {
  tasks = first ∷ lanes_of others;
  number = 0;
  region_is = omega arith;
  found = refl;
  span_is = omega (arith, lanes_counted others);
  lane_is = refl;
}

next_child : (first : Task) (others : Lanes) (after : Task) (region lane k : ℕ) (child : Task) → lane ≡ suc k → slice_get (lanes_of others) k ≡ Some child
    → IsChild (Forks first others after) region (record { region = region; lane = lane; span = 1 + lane_count others }) child
next_child first others after region lane k child e found = record {
  tasks = first ∷ lanes_of others;
  number = 0;
  region_is = omega arith;
  found = refl;
  span_is = omega (arith, lanes_counted others);
  lane_is = rw e found;
}

later_child : (first : Task) (others : Lanes) (after : Task) (region : ℕ) (step : Step) (child : Task) → IsChild after (region + 1) step child → IsChild (Forks first others after) region step child
later_child first others after region step child is = record {
  tasks = is.tasks;
  number = suc is.number;
  region_is = omega (arith, is.region_is);
  found = is.found;
  span_is = is.span_is;
  lane_is = is.lane_is;
}

of_two : {X : Type 0} (xs ys : List X) (x : X) (Q : Type 0) → (Contains xs x → Q) → (Contains ys x → Q) → Contains (xs ++ ys) x → Q
of_two xs ys x Q f g listed = at (Contains-append_cases xs ys x listed) where
  at : Contains xs x ⊎ Contains ys x → Q
  at (inl l) = f l
  at (inr r) = g r

of_first : {X : Type 0} (x : X) (xs : List X) (y : X) (Q : Type 0) → (x ≡ y → Q) → (Contains xs y → Q) → Contains (x ∷ xs) y → Q
of_first x xs y Q f g listed = at (contains_either x xs y listed) where
  at : (x ≡ y) ⊎ Contains xs y → Q
  at (inl e) = f e
  at (inr r) = g r

mutual
  under_there : (task root whole : Task) (path : List Step) (region : ℕ) (p : List Step) → IsAt root path whole
      → ((step : Step) (child : Task) → IsChild task region step child → IsChild whole 0 step child)
      → Contains (under path region task) p → HasTask root p
  under_there Ends root whole path region p at all listed = absurd (omega arith)
  under_there (Forks first others after) root whole path region p at all listed =
      let span : ℕ = 1 + lane_count others in
      let here : List Step = lane_of path region 0 span in
      let is_first : IsChild whole 0 (record { region = region; lane = 0; span = span }) first = all _ first (first_child first others after region) in
      of_two ((here ∷ under here 0 first) ++ lanes path region 1 span others) (under path (region + 1) after) p (HasTask root p)
      (of_two (here ∷ under here 0 first) (lanes path region 1 span others) p (HasTask root p)
      (of_first here (under here 0 first) p (HasTask root p)
      (λ e. there_below root whole first path p _ at is_first e)
      (λ more. under_there first root first here 0 p (below path here whole first _ at is_first refl) (λ s child c. c) more))
      (λ more. lanes_there others root whole path region 1 span p at (λ k child found. all _ child (next_child first others after region (1 + k) k child (omega arith) found)) more))
      (λ more. under_there after root whole path (region + 1) p at (λ s child is. all s child (later_child first others after region s child is)) more)
      listed

  lanes_there : (others : Lanes) (root whole : Task) (path : List Step) (region lane span : ℕ) (p : List Step) → IsAt root path whole
      → ((k : ℕ) (child : Task) → slice_get (lanes_of others) k ≡ Some child → IsChild whole 0 (record { region = region; lane = lane + k; span = span }) child)
      → Contains (lanes path region lane span others) p → HasTask root p
  lanes_there NoLane root whole path region lane span p at all listed = absurd (omega arith)
  lanes_there (Lane first others) root whole path region lane span p at all listed =
      let here : List Step = lane_of path region lane span in
      let is_first : IsChild whole 0 (record { region = region; lane = lane; span = span }) first =
      subst (λ (n : ℕ). IsChild whole 0 (record { region = region; lane = n; span = span }) first) (let zero_more : lane + 0 ≡ lane = omega arith in zero_more) (all 0 first refl) in
      of_two (here ∷ under here 0 first) (lanes path region (lane + 1) span others) p (HasTask root p)
      (of_first here (under here 0 first) p (HasTask root p)
      (λ e. there_below root whole first path p _ at is_first e)
      (λ more. under_there first root first here 0 p (below path here whole first _ at is_first refl) (λ s child c. c) more))
      (λ more. lanes_there others root whole path region (lane + 1) span p at
      (λ k child found. subst (λ (n : ℕ). IsChild whole 0 (record { region = region; lane = n; span = span }) child) (let one_more : lane + suc k ≡ lane + 1 + k = omega arith in one_more) (all (suc k) child found)) more)
      listed

pub listed_there : (root : Task) (p : List Step) → Contains (listing root) p → HasTask root p
listed_there root p listed =
    of_first [] (under [] 0 root) p (HasTask root p)
    (λ e. record { task = root; is_at = top p root (sym e) refl })
    (λ more. under_there root root root [] 0 p (top [] root refl refl) (λ s child c. c) more)
    listed

-- and what is there is listed, with all below it
lane_listed : (others : Lanes) (path : List Step) (region lane span m n : ℕ) (child : Task) (p : List Step) → slice_get (lanes_of others) m ≡ Some child → n ≡ lane + m
    → Contains (lane_of path region n span ∷ under (lane_of path region n span) 0 child) p → Contains (lanes path region lane span others) p
lane_listed NoLane path region lane span m n child p found e listed = cc
lane_listed (Lane first others) path region lane span zero n child p found e listed =
    let same : first ≡ child = same_Some first child found in
    let number : n ≡ lane = omega arith in
    Contains-append_left (lane_of path region lane span ∷ under (lane_of path region lane span) 0 first) (lanes path region (lane + 1) span others) p
    (subst (λ (t : Task). Contains (lane_of path region lane span ∷ under (lane_of path region lane span) 0 t) p) (sym same)
    (subst (λ (k : ℕ). Contains (lane_of path region k span ∷ under (lane_of path region k span) 0 child) p) number listed))
lane_listed (Lane first others) path region lane span (suc m) n child p found e listed =
    Contains-append_right (lane_of path region lane span ∷ under (lane_of path region lane span) 0 first) (lanes path region (lane + 1) span others) p
    (lane_listed others path region (lane + 1) span m n child p found (omega arith) listed)

step_is : (step : Step) (region span : ℕ) → step.region ≡ region → step.span ≡ span → step ≡ record { region = region; lane = step.lane; span = span }
step_is step region span r s = λ i. record { region = r i; lane = step.lane; span = s i }

region_listed : (first : Task) (others : Lanes) (path : List Step) (region lane : ℕ) (child : Task) (p : List Step) → slice_get (first ∷ lanes_of others) lane ≡ Some child
    → Contains (lane_of path region lane (1 + lane_count others) ∷ under (lane_of path region lane (1 + lane_count others)) 0 child) p
    → Contains ((lane_of path region 0 (1 + lane_count others) ∷ under (lane_of path region 0 (1 + lane_count others)) 0 first) ++ lanes path region 1 (1 + lane_count others) others) p
region_listed first others path region zero child p found listed =
    let same : first ≡ child = same_Some first child found in
    Contains-append_left (lane_of path region 0 (1 + lane_count others) ∷ under (lane_of path region 0 (1 + lane_count others)) 0 first) (lanes path region 1 (1 + lane_count others) others) p
    (subst (λ (t : Task). Contains (lane_of path region 0 (1 + lane_count others) ∷ under (lane_of path region 0 (1 + lane_count others)) 0 t) p) (sym same) listed)
region_listed first others path region (suc m) child p found listed =
    Contains-append_right (lane_of path region 0 (1 + lane_count others) ∷ under (lane_of path region 0 (1 + lane_count others)) 0 first) (lanes path region 1 (1 + lane_count others) others) p
    (lane_listed others path region 1 (1 + lane_count others) m (suc m) child p found (omega arith) listed)

-- the paths of a child's step and below
abbrev with_under : List Step → Step → Task → List (List Step)
with_under path step child = (path ++ step ∷ []) ∷ under (path ++ step ∷ []) 0 child

child_listed : (task : Task) (region number : ℕ) (tasks : List Task) (path : List Step) (step : Step) (child : Task) (p : List Step)
    → step.region ≡ region + number → slice_get (regions_of task) number ≡ Some tasks → step.span ≡ length tasks → slice_get tasks step.lane ≡ Some child
    → Contains (with_under path step child) p → Contains (under path region task) p
child_listed Ends region number tasks path step child p r found s lane listed = cc
child_listed (Forks first others after) region zero tasks path step child p r found s lane listed =
    let all : first ∷ lanes_of others ≡ tasks = same_Some (first ∷ lanes_of others) tasks found in
    let counted : length tasks ≡ 1 + lane_count others = sym (ap length all) ∙ (let n : length (first ∷ lanes_of others) ≡ 1 + lane_count others = omega (arith, lanes_counted others) in n) in
    let is : step ≡ record { region = region; lane = step.lane; span = 1 + lane_count others } = step_is step region (1 + lane_count others) (omega arith) (s ∙ counted) in
    Contains-append_left ((lane_of path region 0 (1 + lane_count others) ∷ under (lane_of path region 0 (1 + lane_count others)) 0 first) ++ lanes path region 1 (1 + lane_count others) others) (under path (region + 1) after) p
    (region_listed first others path region step.lane child p
    (subst (λ (ts : List Task). slice_get ts step.lane ≡ Some child) (sym all) lane)
    (subst (λ (t : Step). Contains (with_under path t child) p) is listed))
child_listed (Forks first others after) region (suc number) tasks path step child p r found s lane listed =
    Contains-append_right ((lane_of path region 0 (1 + lane_count others) ∷ under (lane_of path region 0 (1 + lane_count others)) 0 first) ++ lanes path region 1 (1 + lane_count others) others) (under path (region + 1) after) p
    (child_listed after (region + 1) number tasks path step child p (omega arith) found s lane listed)

at_listed : (root : Task) (path : List Step) (task : Task) → IsAt root path task → (p : List Step) → Contains (path ∷ under path 0 task) p → Contains (listing root) p
at_listed root path task (top path1 task1 e f) p listed =
    subst (λ (t : Task). Contains ([] ∷ under [] 0 t) p) f (subst (λ (q : List Step). Contains (q ∷ under q 0 task) p) e listed)
at_listed root path task (below above path1 over task1 step up child e) p listed =
    at_listed root above over up p
    (contains_later above (under above 0 over) p
    (child_listed over 0 child.number child.tasks above step task p child.region_is child.found child.span_is child.lane_is
    (subst (λ (q : List Step). Contains (q ∷ under q 0 task) p) e listed)))

pub there_listed : (root : Task) (path : List Step) (task : Task) → IsAt root path task → Contains (listing root) path
there_listed root path task at = at_listed root path task at path (contains_first path (under path 0 task) path refl)
