-- The texts of a kernel's run, each line ended by a line feed.
use Rattle.std.specs.Prelude.{ℕ, List, [], ◌∷◌, ◌++◌, take, drop, codes, decimal, flat_map, ℤ, pos, ◌+ℤ◌}
use Rattle.std.specs.Int.{w64, cast_signed}
use Rattle.std.specs.Fmt.{signed_decimal}
use Rattle.sw_base.specs.declared.path.Step.{Step}
use Rattle.sw_base.specs.Names.{bare_log_name}
use Rattle.kernel_syntax.specs.declared.syntax.Array.{Array}

-- the task of this path stopped so at this line
abbrev pub stop_line : List Step → ℕ → List ℕ → List ℕ
stop_line path line why = codes "stopped " ++ bare_log_name path ++ codes " line " ++ decimal line ++ codes ": " ++ why ++ codes "\n"

-- the sum of values of 64 bits, signed and not wrapped
abbrev pub sum_of : List ℕ → ℤ
sum_of [] = pos 0
sum_of (value ∷ values) = cast_signed w64 value +ℤ sum_of values

-- the values of an array's elements, of those of all arrays
abbrev pub values_of : Array → List ℕ → List ℕ
values_of array values = take array.count (drop array.first values)

abbrev pub sum_line : List ℕ → Array → List ℕ
sum_line values array = codes "sum " ++ array.name ++ codes " " ++ signed_decimal (sum_of (values_of array values)) ++ codes "\n"

-- how many tasks and records there are
abbrev pub count_lines : ℕ → ℕ → List ℕ
count_lines tasks records = codes "tasks " ++ decimal tasks ++ codes "\n" ++ (codes "records " ++ decimal records ++ codes "\n")

-- the counts of a run, and the sum of each array's values
abbrev pub run_text : ℕ → ℕ → List Array → List ℕ → List ℕ
run_text tasks records arrays values = count_lines tasks records ++ flat_map (sum_line values) arrays
