-- The names of a folder's files, and the order of paths.
use Rattle.std.specs.Prelude.{◌≡◌, ℕ, List, ◌∷◌, ◌++◌, codes}
use Rattle.std.specs.declared.cmp.Ordering.{Ordering}
use Rattle.std.specs.Cmp.Lexicographic.{slice_cmp}
use Rattle.std.specs.Fmt.{decimal}
use Rattle.std.specs.List.{flat_map}
use Rattle.std.specs.Ordering.{nat_cmp, ordering_then}
use Rattle.sw_base.specs.declared.path.Step.{Step}

-- what a step adds to a name: a dash, the region, a dot and the lane
abbrev pub step_text : Step → List ℕ
step_text step = codes "-" ++ decimal step.region ++ codes "." ++ decimal step.lane

-- the name of a task's log within its folder
unfoldable pub bare_log_name : List Step → List ℕ
bare_log_name path = codes "t" ++ flat_map step_text path ++ codes ".swl"

-- the name of a task's log
unfoldable pub log_name : List ℕ → List Step → List ℕ
log_name dir path = dir ++ codes "/" ++ bare_log_name path

-- the name of a folder's index
unfoldable pub index_name : List ℕ → List ℕ
index_name dir = dir ++ codes "/index.swi"

-- the path lies below the other: that one is a proper prefix of it
pub record IsUnder (path above : List Step) : Type 0 where
  pub first : Step
  pub rest : List Step
  pub parts : path ≡ above ++ first ∷ rest

-- the order of steps: by region, then lane, then span
abbrev pub step_cmp : Step → Step → Ordering
step_cmp one other =
    ordering_then (nat_cmp one.region other.region)
    (ordering_then (nat_cmp one.lane other.lane) (nat_cmp one.span other.span))

-- the order of paths: a prefix first, else by the first step that differs
abbrev pub path_cmp : List Step → List Step → Ordering
path_cmp = slice_cmp step_cmp
