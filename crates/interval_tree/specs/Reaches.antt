-- The furthest byte of each subtree of a balanced tree, whose node is the middle of a list and whose subtrees are the halves beside it.
use Rattle.std.specs.Prelude.{◌≡◌, ℕ, zero, suc, ◌+◌, ◌/◌, ◌^◌, ◌<◌, List, [], ◌∷◌, ◌++◌, length, take, drop, max}
use Rattle.stride_summary.specs.declared.run.Run.{Run}
use Rattle.stride_summary.specs.Run.{last_byte}

abbrev pub left_half : {X : Type 0} → List X → List X
left_half xs = take (length xs / 2) xs

abbrev pub right_half : {X : Type 0} → List X → List X
right_half xs = drop (length xs / 2 + 1) xs

-- the furthest byte of the runs, 0 where there are none
abbrev pub furthest : List Run → ℕ
furthest [] = 0
furthest (run ∷ runs) = max (last_byte run) (furthest runs)

-- of a tree of at most so many levels, that of each node after those of its subtrees
unfoldable pub reaches_of : ℕ → List Run → List ℕ
reaches_of zero runs = []
reaches_of (suc levels) [] = []
reaches_of (suc levels) (run ∷ runs) = reaches_of levels (left_half (run ∷ runs)) ++ reaches_of levels (right_half (run ∷ runs)) ++ furthest (run ∷ runs) ∷ []

-- the new reaches are the old ones and those of the runs' tree, which has as many levels as the runs' number has binary digits
abbrev pub AddsReaches : List ℕ → List ℕ → List Run → Type 0
AddsReaches old new runs = (levels : ℕ) → length runs < 2 ^ levels → new ≡ old ++ reaches_of levels runs

abbrev pub AreReaches : List ℕ → List Run → Type 0
AreReaches reaches runs = AddsReaches [] reaches runs
