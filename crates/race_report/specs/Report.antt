-- The text of a report of race pairs.
use Rattle.std.specs.Prelude.{ℕ, List, ◌++◌, length, codes, decimal, flat_map}

-- a line for one pair
abbrev pub race_line : ℕ × ℕ → List ℕ
race_line pair = codes "race " ++ decimal pair.0 ++ codes " " ++ decimal pair.1 ++ codes "\n"

-- the last line, which counts the pairs
abbrev pub count_line : ℕ → List ℕ
count_line count = codes "races " ++ decimal count ++ codes "\n"

-- the pairs in their order, and how many they are
abbrev pub report_text : List (ℕ × ℕ) → List ℕ
report_text pairs = flat_map race_line pairs ++ count_line (length pairs)
