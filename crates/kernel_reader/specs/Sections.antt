-- Entering a section: what is broken there, and what is around then, as the code keeps it.
use Rattle.std.specs.Prelude.{ℕ, ◌+◌, ◌*◌, ◌==◌, true, false, not, ◌||◌, ◌++◌, List, Some, None, is_some, nat_le, nat_lt, ℤ}
use Rattle.kernel_text.specs.declared.fault.KernelWhy.{KernelWhy}
use Rattle.kernel_text.specs.declared.fault.KernelWhy.TheVariants as why
use Rattle.kernel_text.specs.Tokens.{Refusal}
use Rattle.kernel_reader.specs.Scope.{number_of, count_literal, is_between}
use Rattle.kernel_reader.specs.Rules.{fault_if}
use Rattle.kernel_reader.specs.declared.place.Section.{Section}

-- a region
abbrev pub region_faults : Section → ℕ → ℕ → ℤ → List Refusal
region_faults s line number_line span =
    fault_if (is_some s.critical) line why.ParallelHere ++ (fault_if (nat_le 4 s.regions) line why.Deep ++
    (fault_if (not (is_between 1 64 span)) number_line why.Count ++ fault_if (nat_lt 64 (s.spans * count_literal span)) number_line why.Large))

abbrev pub region_section : Section → ℤ → Section
region_section s span = record s { regions = s.regions + 1; spans = s.spans * count_literal span; divided = false; uneven = false }

-- a worksharing loop or a barrier
abbrev pub shared_faults : Section → ℕ → KernelWhy → List Refusal
shared_faults s line w = fault_if ((s.regions == 0) || s.divided) line w ++ fault_if s.uneven line why.NotUniform

-- the number of a declared mutex
abbrev pub mutex_number : List (List ℕ) → List ℕ → ℕ
mutex_number mutexes name = elim (number_of name mutexes) [ None ↦ 0 | Some n ↦ n + 1 ]

-- a critical section
abbrev pub nested_faults : Section → ℕ → ℕ → List Refusal
nested_faults s line mutex =
    fault_if (elim s.critical [ None ↦ false | Some around ↦ nat_le mutex around ]) line why.CriticalOrder ++ fault_if (nat_le 8 s.criticals) line why.Deep

abbrev pub critical_section : Section → ℕ → Section
critical_section s mutex = record s { critical = Some mutex; criticals = s.criticals + 1; divided = true }
