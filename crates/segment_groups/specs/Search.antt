-- What searching a tree of runs costs.
use Rattle.std.specs.Prelude.{ℕ, ◌+◌, ◌*◌, List, length, sum_by}
use Rattle.interval_tree.specs.Order.{met}
use Rattle.stride_summary.specs.declared.run.Run.{Run}
use Rattle.stride_summary.specs.Run.{last_byte}

-- the steps that a search for what a run meets may take
abbrev pub search_cost : List Run → ℕ → Run → ℕ
search_cost runs digits a = (length (met a.base (last_byte a) runs) + 1) * digits

-- the steps that a search for each of the runs may take
abbrev pub searches_cost : List Run → ℕ → List Run → ℕ
searches_cost runs digits xs = sum_by (search_cost runs digits) xs
