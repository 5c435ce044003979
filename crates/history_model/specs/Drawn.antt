-- How the numbers that lanes draw from a shared counter stand in their logs.
use Rattle.std.specs.Prelude.{◌≡◌, ◌<◌, ◌≤◌, ℕ, nat_lt, ◌==◌, List, [], ◌∷◌, ◌++◌, Contains, Some, count_by, filter, slice_get}
use Rattle.std.specs.List.{flat_map}
use Rattle.log_format.specs.declared.record.Record.{Record}
use Rattle.race_model.specs.Draws.{loop_draws, closed_loops}

-- what a lane drew for a loop: the numbers from its counter, and the log that tells them
pub record LaneDraws : Type 0 where
  pub numbers : List ℕ
  pub records : List Record

-- of a loop of so many chunks the log has the numbers below the count, in the order of drawing; and the lane closes the loop
-- only once it drew a number that isn't below
pub record TellsDraws (loop chunks : ℕ) (lane : LaneDraws) : Type 0 where
  pub draws : loop_draws loop lane.records ≡ filter (λ number. nat_lt number chunks) lane.numbers
  pub count : (n : ℕ) → slice_get (closed_loops lane.records) loop ≡ Some n → n ≡ chunks
  pub past : (n : ℕ) → slice_get (closed_loops lane.records) loop ≡ Some n → (number : ℕ) × (chunks ≤ number) × Contains lane.numbers number

-- how often the lanes drew the number from the counter
abbrev pub times_given : List LaneDraws → ℕ → ℕ
times_given lanes number = count_by (λ n. n == number) (flat_map (λ (lane : LaneDraws). lane.numbers) lanes)

-- the counter gave each number below its value once, and no other
pub record GaveEachOnce (lanes : List LaneDraws) (counter : ℕ) : Type 0 where
  pub once : (number : ℕ) → number < counter → times_given lanes number ≡ 1
  pub no_other : (number : ℕ) → counter ≤ number → times_given lanes number ≡ 0

-- loops put before others: the first of these goes on where the last of those stands open
abbrev pub then_loops : List (List ℕ) → List (List ℕ) → List (List ℕ)
then_loops [] later = later
then_loops (loop ∷ []) [] = loop ∷ []
then_loops (loop ∷ []) (first ∷ later) = (loop ++ first) ∷ later
then_loops (loop ∷ next ∷ loops) later = loop ∷ then_loops (next ∷ loops) later
