-- The tasks of a tree of work, in the order of an index: each task, and then the lanes of its regions, each with all under it.
use Rattle.std.specs.Prelude.{ℕ, zero, suc, ◌+◌, List, [], ◌∷◌, ◌++◌}
use Rattle.std.specs.List.{flat_map}
use Rattle.sw_base.specs.declared.path.Step.{Step}
use Rattle.race_model.specs.Trace.{Trace}
use Rattle.race_model.specs.Listing.{lane_of}
use Rattle.history_model.specs.Work.{Work, Phases, RegionWork, work_records, work_regions, lane_works}

-- so many lanes of a region, from this one on; `below` tells a task and all under it
abbrev pub lane_tasks : (List Step → List Work → Trace) → List Step → ℕ → ℕ → Phases → ℕ → ℕ → Trace
lane_tasks below path g span phases lane zero = []
lane_tasks below path g span phases lane (suc left) = below (lane_of path g lane span) (lane_works lane phases) ++ lane_tasks below path g span phases (suc lane) left

-- the regions of a task, from this number on
abbrev pub region_tasks : (List Step → List Work → Trace) → List Step → ℕ → List RegionWork → Trace
region_tasks below path g [] = []
region_tasks below path g (region ∷ regions) = lane_tasks below path g region.span region.phases 0 region.span ++ region_tasks below path (g + 1) regions

-- the task of this path with these works, and all under it of fewer than so many further steps
abbrev pub tasks_from : ℕ → List Step → List Work → Trace
tasks_from zero path works = []
tasks_from (suc depth) path works = record { path = path; records = flat_map work_records works } ∷ region_tasks (tasks_from depth) path 0 (flat_map work_regions works)

-- the tasks of a tree whose paths have at most so many steps
abbrev pub tree_tasks : ℕ → Work → Trace
tree_tasks depth root = tasks_from (suc depth) [] (root ∷ [])
