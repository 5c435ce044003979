-- How much waits to be compared.
use Rattle.std.specs.Prelude.{ℕ, ◌+◌, List, length}
use Rattle.std.specs.List.{sum_by}
use Rattle.log_segment.specs.declared.segment.Segment.{Segment}

-- how many segments and runs these are
abbrev pub size_of : List Segment → ℕ
size_of segments = sum_by (λ s. length s.runs.items + 1) segments

-- at most so many wait for those of the root's next region
abbrev pub most_waiting : ℕ
most_waiting = 16384
