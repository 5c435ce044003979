-- The tasks of a tree of work.
use Rattle.std.proofs.Common.{◌≡◌, ◌⊎◌, inl, inr, refl, sym, ap, ap₂, ◌∙◌, subst, ℕ, zero, suc, ◌+◌, ◌<◌, ◌≤◌, Bool, true, false, cond, List, [], ◌∷◌, ◌++◌, length, map, take, Option, Some, None, arith}
use Rattle.std.specs.Prelude.{slice_get, if◌then◌else◌, ◌==◌, get_or}
use Rattle.std.specs.List.{flat_map}
use Rattle.std.proofs.lemmas.Bool.{cases_lt}
use Rattle.std.proofs.lemmas.List.{append-nil, append_assoc, length-append}
use Rattle.std.proofs.lemmas.Option.{same_Some}
use Rattle.sw_base.specs.declared.path.Step.{Step}
use Rattle.log_format.specs.declared.record.Record.{Record}
use Rattle.log_format.specs.declared.record.Kind.{Kind}
use Rattle.log_format.specs.declared.record.Kind.TheVariants.{Region}
use Rattle.race_model.specs.Trace.{TaskLog, Trace, Logs, logs_of, path_eq, region_count, is_region_kind}
use Rattle.race_model.specs.Listing.{lane_of}
use Rattle.race_model.specs.ForkJoin.{IsTask, WasForked, ListsTask, IsTreeTrace}
use Rattle.race_model.proofs.TraceLogs.{path_is}
use Rattle.history_model.specs.Work.{Work, Rest, Put, Fork, Phases, NoPhase, Phase, TeamWork, NoWork, Beside, RegionWork, fork_record, work_records, work_regions, work_at, lane_works, works_at_region, works_at_step, works_under, task_logs, then_work}
use Rattle.history_model.specs.Did.{lane_count_of}
use Rattle.history_model.specs.Sound.{WordLayout, IsSound, ArePhasesSound, IsTeamSound}
use Rattle.history_model.specs.Tasks.{lane_tasks, region_tasks, tasks_from, tree_tasks}
use Rattle.history_model.proofs.Parts.{count_cons}
use Rattle.history_laws.proofs.Members.{Member, first_member, later_member}
use Rattle.history_laws.proofs.Windows.{get_either}
use Rattle.history_laws.proofs.TaskEntries.{joined, joined_records, joined_regions, path_same}

-- the step is that of a lane of a region of these works
pub record IsForkedLane (works : List Work) (step : Step) : Type 0 where
  pub region : RegionWork
  pub found : slice_get (flat_map work_regions works) step.region ≡ Some region
  pub span_is : region.span ≡ step.span
  pub within : step.lane < step.span

-- each step of the path is one
abbrev pub AreForked : List Work → List Step → Type 0
AreForked works [] = Unit {0}
AreForked works (step ∷ path) = IsForkedLane works step × AreForked (works_at_step step works) path

-- a task is under the path, with the records of its works
pub record IsUnder (bound : ℕ) (path : List Step) (works : List Work) (task : TaskLog) : Type 0 where
  pub rest : List Step
  pub short : length rest < bound
  pub path_is : task.path ≡ path ++ rest
  pub records_are : task.records ≡ flat_map work_records (works_under works rest)
  pub forked : AreForked works rest

member_either : {X : Type 0} (xs ys : List X) (x : X) → Member (xs ++ ys) x → Member xs x ⊎ Member ys x
member_either {X} xs ys x m = at (get_either xs ys m.place x m.found) where
  at : (slice_get xs m.place ≡ Some x) ⊎ ((k : ℕ) × (m.place ≡ length xs + k) × (slice_get ys k ≡ Some x)) → Member xs x ⊎ Member ys x
  at (inl here) = inl (record { place = m.place; found = here })
  at (inr (k, same, there)) = inr (record { place = k; found = there })

number_same : (m : ℕ) → (m == m) ≡ true
number_same m = grind arith

-- the works of a lane
pub lane_is : (works : List Work) (region : RegionWork) (g lane : ℕ) → slice_get (flat_map work_regions works) g ≡ Some region
    → works_at_step (record { region = g; lane = lane; span = region.span }) works ≡ lane_works lane region.phases
lane_is works region g lane found =
    ap (λ (o : Option RegionWork). works_at_region (record { region = g; lane = lane; span = region.span }) o) found
    ∙ ap (λ (b : Bool). if b then lane_works lane region.phases else []) (number_same region.span)

pub step_same : (works : List Work) (step : Step) (forked : IsForkedLane works step) → record { region = step.region; lane = step.lane; span = forked.region.span } ≡ step
step_same works step forked = λ i. record { region = step.region; lane = step.lane; span = forked.span_is i }

pub forked_works : (works : List Work) (step : Step) (forked : IsForkedLane works step) → works_at_step step works ≡ lane_works step.lane forked.region.phases
forked_works works step forked = ap (λ (s : Step). works_at_step s works) (sym (step_same works step forked)) ∙ lane_is works forked.region step.region step.lane forked.found

-- what is under a lane is under its task
lane_under : (bound : ℕ) (path : List Step) (works : List Work) (region : RegionWork) (g lane : ℕ) (task : TaskLog) → slice_get (flat_map work_regions works) g ≡ Some region → lane < region.span
    → IsUnder bound (lane_of path g lane region.span) (lane_works lane region.phases) task → IsUnder (suc bound) path works task
lane_under bound path works region g lane task found less u = record {
  short = omega (arith, u.short);
  rest = record { region = g; lane = lane; span = region.span } ∷ u.rest;
  path_is = u.path_is ∙ append_assoc path (record { region = g; lane = lane; span = region.span } ∷ []) u.rest;
  records_are = u.records_are ∙ ap (λ (ws : List Work). flat_map work_records (works_under ws u.rest)) (sym (lane_is works region g lane found));
  forked = (record { region = region; found = found; span_is = refl; within = less }, subst (λ (ws : List Work). AreForked ws u.rest) (sym (lane_is works region g lane found)) u.forked);
}

module _ (bound : ℕ) (below : List Step → List Work → Trace) (sound_below : (path : List Step) (works : List Work) (task : TaskLog) → Member (below path works) task → IsUnder bound path works task) where
  lanes_under : (path : List Step) (works : List Work) (region : RegionWork) (g lane left : ℕ) (task : TaskLog) → slice_get (flat_map work_regions works) g ≡ Some region → lane + left ≡ region.span
      → Member (lane_tasks below path g region.span region.phases lane left) task → IsUnder (suc bound) path works task
  lanes_under path works region g lane zero task found sum m = let none = m.found in cc
  lanes_under path works region g lane (suc left) task found sum m =
      at (member_either (below (lane_of path g lane region.span) (lane_works lane region.phases)) (lane_tasks below path g region.span region.phases (suc lane) left) task m)
      (λ (later : Member (lane_tasks below path g region.span region.phases (suc lane) left) task). lanes_under path works region g (suc lane) left task found (omega arith) later)
    where
      at : Member (below (lane_of path g lane region.span) (lane_works lane region.phases)) task ⊎ Member (lane_tasks below path g region.span region.phases (suc lane) left) task
          → (Member (lane_tasks below path g region.span region.phases (suc lane) left) task → IsUnder (suc bound) path works task) → IsUnder (suc bound) path works task
      at (inl here) rest = lane_under bound path works region g lane task found (omega arith) (sound_below (lane_of path g lane region.span) (lane_works lane region.phases) task here)
      at (inr later) rest = rest later

  regions_under : (path : List Step) (works : List Work) (g : ℕ) (regions : List RegionWork) (task : TaskLog) → ((n : ℕ) (region : RegionWork) → slice_get regions n ≡ Some region → slice_get (flat_map work_regions works) (g + n) ≡ Some region)
      → Member (region_tasks below path g regions) task → IsUnder (suc bound) path works task
  regions_under path works g [] task all m = let none = m.found in cc
  regions_under path works g (region ∷ regions) task all m =
      at (member_either (lane_tasks below path g region.span region.phases 0 region.span) (region_tasks below path (g + 1) regions) task m)
      (λ (later : Member (region_tasks below path (g + 1) regions) task). regions_under path works (g + 1) regions task
      (λ n r found. ap (λ (k : ℕ). slice_get (flat_map work_regions works) k) (let e : g + 1 + n ≡ g + suc n = omega arith in e) ∙ all (suc n) r found) later)
    where
      at : Member (lane_tasks below path g region.span region.phases 0 region.span) task ⊎ Member (region_tasks below path (g + 1) regions) task
          → (Member (region_tasks below path (g + 1) regions) task → IsUnder (suc bound) path works task) → IsUnder (suc bound) path works task
      at (inl here) rest =
          lanes_under path works region g 0 region.span task (ap (λ (k : ℕ). slice_get (flat_map work_regions works) k) (let e : g ≡ g + 0 = omega arith in e) ∙ all 0 region refl) (omega arith) here
      at (inr later) rest = rest later

pub tasks_under : (depth : ℕ) (path : List Step) (works : List Work) (task : TaskLog) → Member (tasks_from depth path works) task → IsUnder depth path works task
tasks_under zero path works task m = let none = m.found in cc
tasks_under (suc depth) path works task m = at m.place m.found (λ (p : List Step) (ws : List Work) (t : TaskLog) (k : Member (tasks_from depth p ws) t). tasks_under depth p ws t k) where
  at : (n : ℕ) → slice_get (tasks_from (suc depth) path works) n ≡ Some task → ((p : List Step) (ws : List Work) (t : TaskLog) → Member (tasks_from depth p ws) t → IsUnder depth p ws t) → IsUnder (suc depth) path works task
  at zero found rest =
      subst (λ (t : TaskLog). IsUnder (suc depth) path works t) (same_Some (record { path = path; records = flat_map work_records works }) task found)
      (record { rest = []; short = omega arith; path_is = sym (append-nil path); records_are = refl; forked = tt })
  at (suc n) found rest =
      regions_under depth (tasks_from depth) rest path works 0 (flat_map work_regions works) task
      (λ k region there. ap (λ (j : ℕ). slice_get (flat_map work_regions works) j) (let e : 0 + k ≡ k = omega arith in e) ∙ there) (record { place = n; found = found })

-- a listed path has the log of its works
log_listed : (trace : Trace) (logs : Logs) (path : List Step) → ((task : TaskLog) → Member trace task → task.records ≡ logs task.path) → ListsTask trace path → logs_of trace path ≡ logs path
log_listed [] logs path same (k, within, is) = absurd (omega arith)
log_listed (t ∷ trace) logs path same (k, within, is) = at (path_eq t.path path) refl (log_listed trace logs path (λ task m. same task (record { place = suc m.place; found = m.found })))
  where
    at : (b : Bool) → path_eq t.path path ≡ b → (ListsTask trace path → logs_of trace path ≡ logs path) → logs_of (t ∷ trace) path ≡ logs path
    at true e rest =
        let here : logs_of (t ∷ trace) path ≡ t.records = rw e refl in
        here ∙ same t (record { place = 0; found = refl }) ∙ ap logs (path_is t.path path e)
    at false e rest =
        let there : logs_of (t ∷ trace) path ≡ logs_of trace path = rw e refl in
        there ∙ rest (by_place k within is)
      where
        by_place : (n : ℕ) → n < length (map (λ (task : TaskLog). task.path) (t ∷ trace)) → get_or (map (λ (task : TaskLog). task.path) (t ∷ trace)) n path ≡ path → ListsTask trace path
        by_place zero less same_path = let own : path_eq t.path path ≡ true = ap (λ (p : List Step). path_eq p path) same_path ∙ path_same path in cc
        by_place (suc n) less same_path = (n, omega arith, same_path)

task_records : (depth : ℕ) (root : Work) (task : TaskLog) → Member (tree_tasks depth root) task → task.records ≡ task_logs root task.path
task_records depth root task m = let u = tasks_under (suc depth) [] (root ∷ []) task m in u.records_are ∙ ap (λ (p : List Step). task_logs root p) (sym u.path_is)

pub logs_listed : (depth : ℕ) (root : Work) (path : List Step) → ListsTask (tree_tasks depth root) path → logs_of (tree_tasks depth root) path ≡ task_logs root path
logs_listed depth root path lists = log_listed (tree_tasks depth root) (task_logs root) path (task_records depth root) lists

-- the task of a listed path
pub listed_member : (trace : Trace) (path : List Step) → ListsTask trace path → (task : TaskLog) × Member trace task × (task.path ≡ path)
listed_member [] path (k, within, is) = absurd (omega arith)
listed_member (t ∷ trace) path (zero, within, is) = (t, record { place = 0; found = refl }, is)
listed_member (t ∷ trace) path (suc k, within, is) = at (listed_member trace path (k, omega arith, is)) where
  at : (task : TaskLog) × Member trace task × (task.path ≡ path) → (task : TaskLog) × Member (t ∷ trace) task × (task.path ≡ path)
  at (task, m, same) = (task, record { place = suc m.place; found = m.found }, same)

member_listed : (trace : Trace) (task : TaskLog) → Member trace task → ListsTask trace task.path
member_listed [] task m = let none = m.found in cc
member_listed (t ∷ trace) task m = at m.place m.found (λ (n : ℕ) found. member_listed trace task (record { place = n; found = found })) where
  at : (n : ℕ) → slice_get (t ∷ trace) n ≡ Some task → ((k : ℕ) → slice_get trace k ≡ Some task → ListsTask trace task.path) → ListsTask (t ∷ trace) task.path
  at zero found rest = (0, omega arith, ap (λ (x : TaskLog). x.path) (same_Some t task found))
  at (suc n) found rest = more (rest n found) where
    more : ListsTask trace task.path → ListsTask (t ∷ trace) task.path
    more (k, within, is) = (suc k, omega arith, is)

pub regions_later : (below : List Step → List Work → Trace) (path : List Step) (g : ℕ) (regions more : List RegionWork)
    → region_tasks below path g (regions ++ more) ≡ region_tasks below path g regions ++ region_tasks below path (g + length regions) more
regions_later below path g [] more = ap (λ (n : ℕ). region_tasks below path n more) (let e : g ≡ g + 0 = omega arith in e)
regions_later below path g (region ∷ regions) more =
    ap (λ (ts : Trace). lane_tasks below path g region.span region.phases 0 region.span ++ ts) (regions_later below path (g + 1) regions more)
    ∙ sym (append_assoc (lane_tasks below path g region.span region.phases 0 region.span) (region_tasks below path (g + 1) regions) (region_tasks below path (g + 1 + length regions) more))
    ∙ ap (λ (n : ℕ). (lane_tasks below path g region.span region.phases 0 region.span ++ region_tasks below path (g + 1) regions) ++ region_tasks below path n more)
    (let e : g + 1 + length regions ≡ g + suc (length regions) = omega arith in e)

-- each forked path is listed
lane_member : (below : List Step → List Work → Trace) (path : List Step) (g span : ℕ) (phases : Phases) (lane d left : ℕ) (task : TaskLog) → d < left
    → Member (below (lane_of path g (lane + d) span) (lane_works (lane + d) phases)) task → Member (lane_tasks below path g span phases lane left) task
lane_member below path g span phases lane d zero task less m = absurd (omega arith)
lane_member below path g span phases lane zero (suc left) task less m =
    first_member (below (lane_of path g lane span) (lane_works lane phases)) (lane_tasks below path g span phases (suc lane) left) task
    (subst (λ (l : ℕ). Member (below (lane_of path g l span) (lane_works l phases)) task) (let e : lane + 0 ≡ lane = omega arith in e) m)
lane_member below path g span phases lane (suc d) (suc left) task less m =
    later_member (below (lane_of path g lane span) (lane_works lane phases)) (lane_tasks below path g span phases (suc lane) left) task
    (lane_member below path g span phases (suc lane) d left task (omega arith) (subst (λ (l : ℕ). Member (below (lane_of path g l span) (lane_works l phases)) task) (let e : lane + suc d ≡ suc lane + d = omega arith in e) m))

region_member : (below : List Step → List Work → Trace) (path : List Step) (g n : ℕ) (regions : List RegionWork) (region : RegionWork) (task : TaskLog) → slice_get regions n ≡ Some region
    → Member (lane_tasks below path (g + n) region.span region.phases 0 region.span) task → Member (region_tasks below path g regions) task
region_member below path g n [] region task found m = cc
region_member below path g zero (r ∷ regions) region task found m =
    first_member (lane_tasks below path g r.span r.phases 0 r.span) (region_tasks below path (g + 1) regions) task
    (subst (λ (x : RegionWork). Member (lane_tasks below path g x.span x.phases 0 x.span) task) (sym (same_Some r region found))
    (subst (λ (k : ℕ). Member (lane_tasks below path k region.span region.phases 0 region.span) task) (let e : g + 0 ≡ g = omega arith in e) m))
region_member below path g (suc n) (r ∷ regions) region task found m =
    later_member (lane_tasks below path g r.span r.phases 0 r.span) (region_tasks below path (g + 1) regions) task
    (region_member below path (g + 1) n regions region task found (subst (λ (k : ℕ). Member (lane_tasks below path k region.span region.phases 0 region.span) task) (let e : g + suc n ≡ g + 1 + n = omega arith in e) m))

abbrev under_task : List Step → List Work → List Step → TaskLog
under_task path works rest = record { path = path ++ rest; records = flat_map work_records (works_under works rest) }

forked_listed : (depth : ℕ) (path : List Step) (works : List Work) (rest : List Step) → AreForked works rest → length rest < depth → Member (tasks_from depth path works) (under_task path works rest)
forked_listed zero path works rest forked less = absurd (omega arith)
forked_listed (suc depth) path works [] forked less =
    record { place = 0; found = ap (λ (p : List Step). Some (record { path = p; records = flat_map work_records works })) (sym (append-nil path)) }
forked_listed (suc depth) path works (step ∷ rest) forked less = at (forked_listed depth (path ++ step ∷ []) (works_at_step step works) rest forked.1 (omega arith))
  where
    at : Member (tasks_from depth (path ++ step ∷ []) (works_at_step step works)) (under_task (path ++ step ∷ []) (works_at_step step works) rest) → Member (tasks_from (suc depth) path works) (under_task path works (step ∷ rest))
    at m = record { place = suc in_regions.place; found = in_regions.found }
      where
        there : Member (tasks_from depth (lane_of path step.region step.lane forked.0.region.span) (lane_works step.lane forked.0.region.phases)) (under_task path works (step ∷ rest))
        there =
            subst (λ (ws : List Work). Member (tasks_from depth (lane_of path step.region step.lane forked.0.region.span) ws) (under_task path works (step ∷ rest))) (forked_works works step forked.0)
            (subst (λ (s : Step). Member (tasks_from depth (path ++ s ∷ []) (works_at_step step works)) (under_task path works (step ∷ rest))) (sym (step_same works step forked.0))
            (subst (λ (p : List Step). Member (tasks_from depth (path ++ step ∷ []) (works_at_step step works)) (record { path = p; records = flat_map work_records (works_under (works_at_step step works) rest) }))
            (append_assoc path (step ∷ []) rest) m))

        in_regions : Member (region_tasks (tasks_from depth) path 0 (flat_map work_regions works)) (under_task path works (step ∷ rest))
        in_regions =
            region_member (tasks_from depth) path 0 step.region (flat_map work_regions works) forked.0.region (under_task path works (step ∷ rest)) forked.0.found
            (lane_member (tasks_from depth) path (0 + step.region) forked.0.region.span forked.0.region.phases 0 step.lane forked.0.region.span (under_task path works (step ∷ rest))
            (omega (arith, forked.0.within, forked.0.span_is))
            (subst (λ (k : ℕ). Member (tasks_from depth (lane_of path k (0 + step.lane) forked.0.region.span) (lane_works (0 + step.lane) forked.0.region.phases)) (under_task path works (step ∷ rest)))
            (let e : step.region ≡ 0 + step.region = omega arith in e)
            (subst (λ (l : ℕ). Member (tasks_from depth (lane_of path step.region l forked.0.region.span) (lane_works l forked.0.region.phases)) (under_task path works (step ∷ rest))) (let e : step.lane ≡ 0 + step.lane = omega arith in e) there)))

pub listed_of : (depth : ℕ) (root : Work) (path : List Step) → AreForked (root ∷ []) path → length path ≤ depth → ListsTask (tree_tasks depth root) path
listed_of depth root path forked le = member_listed (tree_tasks depth root) (under_task [] (root ∷ []) path) (forked_listed (suc depth) [] (root ∷ []) path forked (omega arith))

-- works of a sound tree
abbrev pub AreSound : WordLayout → List Work → Type 0
AreSound layout [] = Unit {0}
AreSound layout (work ∷ works) = IsSound layout work × AreSound layout works

sound_append : (layout : WordLayout) (xs ys : List Work) → AreSound layout xs → AreSound layout ys → AreSound layout (xs ++ ys)
sound_append layout [] ys left right = right
sound_append layout (x ∷ xs) ys left right = (left.0, sound_append layout xs ys left.1 right)

sound_work_region : (layout : WordLayout) (work : Work) (r : ℕ) (region : RegionWork) → IsSound layout work → slice_get (work_regions work) r ≡ Some region → ArePhasesSound layout region.span region.phases
sound_work_region layout Rest r region sound found = cc
sound_work_region layout (Put q more) r region sound found = sound_work_region layout more r region sound.2 found
sound_work_region layout (Fork line span phases more) zero region sound found =
    subst (λ (x : RegionWork). ArePhasesSound layout x.span x.phases) (same_Some (record { span = span; phases = phases }) region found) sound.0
sound_work_region layout (Fork line span phases more) (suc r) region sound found = sound_work_region layout more r region sound.1 found

pub sound_regions : (layout : WordLayout) (works : List Work) (r : ℕ) (region : RegionWork) → AreSound layout works → slice_get (flat_map work_regions works) r ≡ Some region → ArePhasesSound layout region.span region.phases
sound_regions layout [] r region sound found = cc
sound_regions layout (work ∷ works) r region sound found =
    at (get_either (work_regions work) (flat_map work_regions works) r region found) (λ (k : ℕ) there. sound_regions layout works k region sound.1 there)
  where
    at : (slice_get (work_regions work) r ≡ Some region) ⊎ ((m : ℕ) × (r ≡ length (work_regions work) + m) × (slice_get (flat_map work_regions works) m ≡ Some region))
        → ((k : ℕ) → slice_get (flat_map work_regions works) k ≡ Some region → ArePhasesSound layout region.span region.phases) → ArePhasesSound layout region.span region.phases
    at (inl here) rest = sound_work_region layout work r region sound.0 here
    at (inr (m, same, there)) rest = rest m there

sound_team_at : (layout : WordLayout) (lane : ℕ) (team : TeamWork) → IsTeamSound layout team → AreSound layout (work_at lane team)
sound_team_at layout lane NoWork sound = tt
sound_team_at layout zero (Beside work others) sound = (sound.0, tt)
sound_team_at layout (suc lane) (Beside work others) sound = sound_team_at layout lane others sound.1

sound_lane_works : (layout : WordLayout) (span lane : ℕ) (phases : Phases) → ArePhasesSound layout span phases → AreSound layout (lane_works lane phases)
sound_lane_works layout span lane NoPhase sound = tt
sound_lane_works layout span lane (Phase team later) sound = sound_append layout (work_at lane team) (lane_works lane later) (sound_team_at layout lane team sound.1) (sound_lane_works layout span lane later sound.3)

pub sound_at_step : (layout : WordLayout) (step : Step) (works : List Work) → AreSound layout works → AreSound layout (works_at_step step works)
sound_at_step layout step works sound = at (slice_get (flat_map work_regions works) step.region) refl where
  at : (o : Option RegionWork) → slice_get (flat_map work_regions works) step.region ≡ o → AreSound layout (works_at_region step o)
  at None e = tt
  at (Some region) e = by_span (region.span == step.span) where
    by_span : (b : Bool) → AreSound layout (if b then lane_works step.lane region.phases else [])
    by_span true = sound_lane_works layout region.span step.lane region.phases (sound_regions layout works step.region region sound e)
    by_span false = tt

pub sound_works_under : (layout : WordLayout) (works : List Work) (path : List Step) → AreSound layout works → AreSound layout (works_under works path)
sound_works_under layout works [] sound = sound
sound_works_under layout works (step ∷ path) sound = sound_works_under layout (works_at_step step works) path (sound_at_step layout step works sound)

-- where there are records, the path was forked
no_works_under : (path : List Step) → works_under [] path ≡ []
no_works_under [] = refl
no_works_under (step ∷ path) = no_works_under path

no_work_at : (lane : ℕ) (team : TeamWork) → lane_count_of team ≤ lane → work_at lane team ≡ []
no_work_at lane NoWork le = refl
no_work_at zero (Beside work others) le = absurd (omega arith)
no_work_at (suc lane) (Beside work others) le = no_work_at lane others (omega arith)

pub no_lane_works : (layout : WordLayout) (span lane : ℕ) (phases : Phases) → ArePhasesSound layout span phases → span ≤ lane → lane_works lane phases ≡ []
no_lane_works layout span lane NoPhase sound le = refl
no_lane_works layout span lane (Phase team later) sound le =
    ap₂ (λ (xs ys : List Work). xs ++ ys) (no_work_at lane team (omega (arith, sound.0))) (no_lane_works layout span lane later sound.3 le)

span_same : (m n : ℕ) → (m == n) ≡ true → m ≡ n
span_same m n e = grind arith

pub records_forked : (layout : WordLayout) (works : List Work) (path : List Step) → AreSound layout works → 0 < length (flat_map work_records (works_under works path)) → AreForked works path
records_forked layout works [] sound some = tt
records_forked layout works (step ∷ path) sound some =
    (at (slice_get (flat_map work_regions works) step.region) refl, records_forked layout (works_at_step step works) path (sound_at_step layout step works sound) some)
  where
    none : works_at_step step works ≡ [] → ⊥
    none empty =
        let size : length (flat_map work_records (works_under (works_at_step step works) path)) ≡ 0
        = ap (λ (ws : List Work). length (flat_map work_records (works_under ws path))) empty ∙ ap (λ (ws : List Work). length (flat_map work_records ws)) (no_works_under path) in
        omega arith

    at : (o : Option RegionWork) → slice_get (flat_map work_regions works) step.region ≡ o → IsForkedLane works step
    at None e = absurd (none (ap (λ (o : Option RegionWork). works_at_region step o) e))
    at (Some region) e = by_span (region.span == step.span) refl where
      works_are : (b : Bool) → (region.span == step.span) ≡ b → works_at_step step works ≡ (if b then lane_works step.lane region.phases else [])
      works_are b same = ap (λ (o : Option RegionWork). works_at_region step o) e ∙ ap (λ (c : Bool). if c then lane_works step.lane region.phases else []) same

      by_span : (b : Bool) → (region.span == step.span) ≡ b → IsForkedLane works step
      by_span false same = absurd (none (works_are false same))
      by_span true same =
          let span_is : region.span ≡ step.span = span_same region.span step.span same in
          record { region = region; found = e; span_is = span_is; within = by_lane span_is (cases_lt step.lane step.span) }
        where
          by_lane : region.span ≡ step.span → (step.lane < step.span) ⊎ (step.span ≤ step.lane) → step.lane < step.span
          by_lane span_is (inl less) = less
          by_lane span_is (inr le) =
              absurd (none (works_are true same ∙ no_lane_works layout region.span step.lane region.phases (sound_regions layout works step.region region sound e) (omega arith)))

pub all_listed : (layout : WordLayout) (depth : ℕ) (root : Work) (path : List Step) → IsSound layout root → length path ≤ depth → IsTask (task_logs root) path → ListsTask (tree_tasks depth root) path
all_listed layout depth root path sound le some = listed_of depth root path (records_forked layout (root ∷ []) path (sound, tt) some) le

-- the record of a region
abbrev PutsNoRegion : Work → Type 0
PutsNoRegion Rest = Unit {0}
PutsNoRegion (Put r more) = (r.kind ≡ Region → ⊥) × PutsNoRegion more
PutsNoRegion (Fork line span phases more) = PutsNoRegion more

sound_puts : (layout : WordLayout) (work : Work) → IsSound layout work → PutsNoRegion work
sound_puts layout Rest sound = tt
sound_puts layout (Put r more) sound = (sound.0.no_region, sound_puts layout more sound.2)
sound_puts layout (Fork line span phases more) sound = sound_puts layout more sound.1

then_puts : (work other : Work) → PutsNoRegion work → PutsNoRegion other → PutsNoRegion (then_work work other)
then_puts Rest other mine yours = yours
then_puts (Put r more) other mine yours = (mine.0, then_puts more other mine.1 yours)
then_puts (Fork line span phases more) other mine yours = then_puts more other mine yours

joined_puts : (layout : WordLayout) (works : List Work) → AreSound layout works → PutsNoRegion (joined works)
joined_puts layout [] sound = tt
joined_puts layout (work ∷ works) sound = then_puts work (joined works) (sound_puts layout work sound.0) (joined_puts layout works sound.1)

record RegionRecord (records : List Record) (number span : ℕ) : Type 0 where
  place : ℕ
  line : ℕ
  found : slice_get records place ≡ Some (fork_record line span)
  before : region_count (take place records) ≡ number

pub other_kind : (k : Kind) → (k ≡ Region → ⊥) → is_region_kind k ≡ false
other_kind Region other = absurd (other refl)
other_kind _ other = refl

region_record_at : (work : Work) (r : ℕ) (region : RegionWork) → PutsNoRegion work → slice_get (work_regions work) r ≡ Some region → RegionRecord (work_records work) r region.span
region_record_at Rest r region puts found = cc
region_record_at (Put q more) r region puts found =
    let rest = region_record_at more r region puts.1 found in
    let none : region_count (q ∷ []) ≡ 0 = ap (λ (b : Bool). 0 + cond b 1 0) (other_kind q.kind puts.0) in
    let count = count_cons (λ (x : Record). is_region_kind x.kind) q (take rest.place (work_records more)) in
    record { place = suc rest.place; line = rest.line; found = rest.found; before = omega (arith, rest.before) }
region_record_at (Fork line span phases more) zero region puts found =
    record { place = 0; line = line; found = ap (λ (x : RegionWork). Some (fork_record line x.span)) (same_Some (record { span = span; phases = phases }) region found); before = refl }
region_record_at (Fork line span phases more) (suc r) region puts found =
    let rest = region_record_at more r region puts found in
    let count = count_cons (λ (x : Record). is_region_kind x.kind) (fork_record line span) (take rest.place (work_records more)) in
    record { place = suc rest.place; line = rest.line; found = rest.found; before = omega (arith, rest.before) }

region_of_works : (layout : WordLayout) (works : List Work) (r : ℕ) (region : RegionWork) → AreSound layout works → slice_get (flat_map work_regions works) r ≡ Some region → RegionRecord (flat_map work_records works) r region.span
region_of_works layout works r region sound found =
    subst (λ (rs : List Record). RegionRecord rs r region.span) (joined_records works)
    (region_record_at (joined works) r region (joined_puts layout works sound) (ap (λ (regions : List RegionWork). slice_get regions r) (joined_regions works) ∙ found))

-- of a forked path the path above, and its last step
pub forked_last : (works : List Work) (path : List Step) (step : Step) → AreForked works (path ++ step ∷ []) → AreForked works path × IsForkedLane (works_under works path) step
forked_last works [] step forked = (tt, forked.0)
forked_last works (s ∷ path) step forked = let rest = forked_last (works_at_step s works) path step forked.1 in ((forked.0, rest.0), rest.1)

pub tree_of_tasks : (layout : WordLayout) (depth : ℕ) (root : Work) → IsSound layout root → IsTreeTrace (tree_tasks depth root)
tree_of_tasks layout depth root sound = record { root = (0, omega arith, refl); forked = λ path step lists. at path step (listed_member (tree_tasks depth root) (path ++ step ∷ []) lists) }
  where
    at : (path : List Step) (step : Step) → (task : TaskLog) × Member (tree_tasks depth root) task × (task.path ≡ path ++ step ∷ []) → WasForked (logs_of (tree_tasks depth root)) path step
    at path step (task, m, same) = of_task (tasks_under (suc depth) [] (root ∷ []) task m)
      where
        of_task : IsUnder (suc depth) [] (root ∷ []) task → WasForked (logs_of (tree_tasks depth root)) path step
        of_task u = of_parts (forked_last (root ∷ []) path step (subst (λ (p : List Step). AreForked (root ∷ []) p) (sym u.path_is ∙ same) u.forked))
          where
            size : length path + 1 ≤ depth
            size = let sizes : length u.rest ≡ length path + 1 = ap length (sym u.path_is ∙ same) ∙ length-append path (step ∷ []) in omega (arith, u.short)

            of_parts : AreForked (root ∷ []) path × IsForkedLane (works_under (root ∷ []) path) step → WasForked (logs_of (tree_tasks depth root)) path step
            of_parts (above, last) =
                with_record (region_of_works layout (works_under (root ∷ []) path) step.region last.region (sound_works_under layout (root ∷ []) path (sound, tt)) last.found)
              where
                log_is : logs_of (tree_tasks depth root) path ≡ flat_map work_records (works_under (root ∷ []) path)
                log_is = logs_listed depth root path (listed_of depth root path above (omega (arith, size)))

                with_record : RegionRecord (flat_map work_records (works_under (root ∷ []) path)) step.region last.region.span → WasForked (logs_of (tree_tasks depth root)) path step
                with_record r = record {
                  fork = record { path = path; index = r.place };
                  above = refl;
                  lane = record {
                    event = fork_record r.line last.region.span;
                    found = ap (λ (rs : List Record). slice_get rs r.place) log_is ∙ r.found;
                    region = refl;
                    spans = last.span_is;
                    in_span = last.within;
                    child = ap (λ (n : ℕ). path ++ record { region = n; lane = step.lane; span = step.span } ∷ []) (sym (ap (λ (rs : List Record). region_count (take r.place rs)) log_is ∙ r.before));
                  };
                }
