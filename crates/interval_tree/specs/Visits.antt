-- How a visitor's states follow one another, and how many steps a search takes.
use Rattle.std.specs.Prelude.{◌≡◌, ℕ, ◌+◌, ◌*◌, ◌^◌, ◌<◌, ◌≤◌, List, [], ◌∷◌, ◌++◌, length, All}
use Rattle.stride_summary.specs.declared.run.Run.{Run}
use Rattle.interval_tree.specs.Order.{met}

-- from one state to another by taking each of a list in turn
abbrev pub TakesEach : {S X : Type 0} → (S → X → S → Type 0) → S → List X → S → Type 0
TakesEach took before [] after = before ≡ after
TakesEach {S} took before (x ∷ xs) after = (between : S) × took before x between × TakesEach took between xs after

-- the first of a list were taken, and the next was refused
pub record TakesUpTo {S X : Type 0} (took refused : S → X → S → Type 0) (before : S) (xs : List X) (after : S) : Type 0 where
  pub taken : List X
  pub next : X
  pub later : List X
  pub all : xs ≡ taken ++ next ∷ later
  pub between : S
  pub takes : TakesEach took before taken between
  pub refuses : refused between next after

-- for each run that is met, and once more unless all runs begin by hi, a step at most for each binary digit of the runs' number
pub record StepsWithin (old new lo hi : ℕ) (runs : List Run) : Type 0 where
  pub most : (digits : ℕ) → length runs < 2 ^ digits → new ≤ old + (length (met lo hi runs) + 1) * digits
  pub inside : All (λ run. run.base ≤ hi) runs → (digits : ℕ) → length runs < 2 ^ digits → new ≤ old + length (met lo hi runs) * digits
