-- Where each record has a line, the logs of a tree of work have all its records.
use Rattle.std.proofs.Common.{◌≡◌, refl, ap, ap₂, sym, ◌∙◌, ℕ, zero, suc, ◌+◌, ◌<◌, ◌≤◌, Bool, false, cond, List, [], ◌∷◌, ◌++◌, length, map, arith, All}
use Rattle.std.specs.Prelude.{not, ◌==◌}
use Rattle.std.specs.List.{flat_map}
use Rattle.std.proofs.lemmas.Bool.Decides.{nat_tests}
use Rattle.std.proofs.lemmas.List.{map-append}
use Rattle.std.proofs.lemmas.List.Elements.{All-head, All-tail}
use Rattle.sw_base.specs.declared.path.Step.{Step}
use Rattle.log_format.specs.declared.record.Record.{Record}
use Rattle.race_model.specs.Listing.{lane_of}
use Rattle.race_model.specs.Trace.{TaskLog, Trace}
use Rattle.history_model.specs.Tasks.{lane_tasks, region_tasks, tasks_from}
use Rattle.history_model.specs.Work.{Work, Phases, RegionWork, work_records, work_regions, lane_works}
use Rattle.history_laws.proofs.TaskTree.{regions_later}
use Rattle.execution_model.specs.Runs.{put_records, as_logged}
use Rattle.serial_laws.proofs.Lined.{HasLine}

pub put_lines : (rs : List Record) → All HasLine rs → put_records rs ≡ rs
put_lines [] all = refl
put_lines (r ∷ rs) all =
    let line : 1 ≤ r.line = All-head HasLine r rs all in
    let some : (r.line == 0) ≡ false = grind (arith, nat_tests) in
    ap (λ (b : Bool). cond (not b) (r ∷ put_records rs) (put_records rs)) some ∙ ap (λ (l : List Record). r ∷ l) (put_lines rs (All-tail HasLine r rs all))

-- the logs of the task with these works, and of all under it, have all records
abbrev pub ArePut : List Work → Type 0
ArePut works = (depth : ℕ) (path : List Step) → map as_logged (tasks_from depth path works) ≡ tasks_from depth path works

abbrev pub RegionsPut : List RegionWork → Type 0
RegionsPut regions = (depth : ℕ) (path : List Step) (g : ℕ) → map as_logged (region_tasks (tasks_from depth) path g regions) ≡ region_tasks (tasks_from depth) path g regions

abbrev task_of : List Step → List Record → TaskLog
task_of path records = record { path = path; records = records }

pub task_put : (works : List Work) → put_records (flat_map work_records works) ≡ flat_map work_records works → RegionsPut (flat_map work_regions works) → ArePut works
task_put works put regions zero path = refl
task_put works put regions (suc depth) path = ap₂ (λ (rs : List Record) (ts : Trace). task_of path rs ∷ ts) put (regions depth path 0)

module _ (phases : Phases) (span depth : ℕ) (path : List Step) (g : ℕ) (each : (lane : ℕ) → lane < span → ArePut (lane_works lane phases)) where
  lanes_put : (lane left : ℕ) → lane + left ≤ span → map as_logged (lane_tasks (tasks_from depth) path g span phases lane left) ≡ lane_tasks (tasks_from depth) path g span phases lane left
  lanes_put lane zero within = refl
  lanes_put lane (suc left) within =
      map-append as_logged (tasks_from depth (lane_of path g lane span) (lane_works lane phases)) (lane_tasks (tasks_from depth) path g span phases (suc lane) left)
      ∙ ap₂ (λ (ts us : Trace). ts ++ us) (each lane (omega (arith, within)) depth (lane_of path g lane span)) (lanes_put (suc lane) left (omega (arith, within)))

pub region_put : (region : RegionWork) (regions : List RegionWork) → ((lane : ℕ) → lane < region.span → ArePut (lane_works lane region.phases)) → RegionsPut regions → RegionsPut (region ∷ regions)
region_put region regions each rest depth path g =
    map-append as_logged (lane_tasks (tasks_from depth) path g region.span region.phases 0 region.span) (region_tasks (tasks_from depth) path (g + 1) regions)
    ∙ ap₂ (λ (ts us : Trace). ts ++ us) (lanes_put region.phases region.span depth path g each 0 region.span (omega arith)) (rest depth path (g + 1))

-- regions of one phase, and then of the next
pub regions_put_both : (one more : List RegionWork) → RegionsPut one → RegionsPut more → RegionsPut (one ++ more)
regions_put_both one more first second depth path g =
    let is = regions_later (tasks_from depth) path g one more in
    ap (λ (ts : Trace). map as_logged ts) is ∙ map-append as_logged (region_tasks (tasks_from depth) path g one) (region_tasks (tasks_from depth) path (g + length one) more)
    ∙ ap₂ (λ (ts us : Trace). ts ++ us) (first depth path g) (second depth path (g + length one)) ∙ sym is
