-- Which iterations of a worksharing loop a lane executes, counted from 0 (OpenMP 5.2: the schedules static and dynamic).
use Rattle.std.specs.Prelude.{ℕ, ◌-◌, ◌*◌, ◌/◌, ◌%◌, min, ◌==◌, List, filter, ℤ, ◌-ℤ◌, pos, negsuc}
use Rattle.std.specs.List.{range_with_len}
use Rattle.std.specs.Int.{div_ceil}
use Rattle.kernel_syntax.specs.Share.{even_share_of}

-- how many iterations a loop has
abbrev pub count_of : ℤ → ℕ
count_of (pos n) = n
count_of (negsuc n) = 0

abbrev pub total_of : ℤ → ℤ → ℕ
total_of from to = count_of (to -ℤ from)

-- the numbers below n, in order
abbrev pub below : ℕ → List ℕ
below n = range_with_len 0 n

-- an even share: one run of iterations
abbrev pub run_of : ℕ × ℕ → List ℕ
run_of share = range_with_len share.0 share.1

abbrev pub even_iterations : ℕ → ℕ → ℕ → List ℕ
even_iterations total lane span = run_of (even_share_of total lane span)

-- chunks of so many iterations, dealt to the lanes in turn
abbrev pub static_iterations : ℕ → ℕ → ℕ → ℕ → List ℕ
static_iterations chunk total lane span = filter (λ i. (i / chunk) % span == lane) (below total)

-- how many chunks a loop has, and the iterations of one
abbrev pub chunk_count : ℕ → ℕ → ℕ
chunk_count chunk total = div_ceil total chunk

abbrev pub chunk_iterations : ℕ → ℕ → ℕ → List ℕ
chunk_iterations chunk total k = range_with_len (k * chunk) (min chunk (total - k * chunk))
