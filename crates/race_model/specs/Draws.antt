-- The chunks that the lanes of a team drew for their dynamic loops (OpenMP 5.2, the dynamic schedule), told by their logs.
use Rattle.std.specs.Prelude.{◌≡◌, ℕ, ◌<◌, ◌≤◌, ◌==◌, if◌then◌else◌, List, [], ◌∷◌, All, count_by, get_or, Some, slice_get}
use Rattle.std.specs.List.{flat_map}
use Rattle.log_format.specs.declared.record.Record.{Record}
use Rattle.log_format.specs.declared.record.Kind.{Kind}
use Rattle.log_format.specs.declared.record.Kind.TheVariants.{Chunk}

-- a number before the numbers of a first loop
abbrev pub in_first_loop : ℕ → List (List ℕ) → List (List ℕ)
in_first_loop number [] = (number ∷ []) ∷ []
in_first_loop number (loop ∷ loops) = (number ∷ loop) ∷ loops

-- a record before the draws of the loops behind it: a Chunk closes its loop where its number is how many chunks there are,
-- and else it is a draw
abbrev pub with_draw : Kind → Record → List (List ℕ) → List (List ℕ)
with_draw Chunk r loops = if r.addr == r.value then [] ∷ loops else in_first_loop r.addr loops
with_draw _ r loops = loops

-- the numbers that a log draws, parted where a loop closes
abbrev pub draws_by_loop : List Record → List (List ℕ)
draws_by_loop [] = [] ∷ []
draws_by_loop (r ∷ records) = with_draw r.kind r (draws_by_loop records)

-- the numbers drawn for the loop of this number, from 0; none where the loop before it hasn't closed
abbrev pub loop_draws : ℕ → List Record → List ℕ
loop_draws loop records = get_or (draws_by_loop records) loop []

abbrev pub with_closing : Kind → Record → List ℕ → List ℕ
with_closing Chunk r counts = if r.addr == r.value then r.value ∷ counts else counts
with_closing _ r counts = counts

-- how many chunks each loop has that the log closes, in order
abbrev pub closed_loops : List Record → List ℕ
closed_loops [] = []
closed_loops (r ∷ records) = with_closing r.kind r (closed_loops records)

-- how often the lanes of these logs drew the number for the loop
abbrev pub times_drawn : ℕ → List (List Record) → ℕ → ℕ
times_drawn loop lanes number = count_by (λ (n : ℕ). n == number) (flat_map (loop_draws loop) lanes)

-- the lanes of these logs drew the numbers below n for the loop, each once, and no others; and who closed it found n chunks
pub record DrewEachOnce (lanes : List (List Record)) (loop n : ℕ) : Type 0 where
  pub once : (number : ℕ) → number < n → times_drawn loop lanes number ≡ 1
  pub no_other : (number : ℕ) → n ≤ number → times_drawn loop lanes number ≡ 0
  pub closed : All (λ (records : List Record). (m : ℕ) → slice_get (closed_loops records) loop ≡ Some m → m ≡ n) lanes
