-- How a loop's iterations, counted from 0, are shared evenly among a team's lanes (OpenMP 5.2: a static schedule
-- without a chunk size).
use Rattle.std.specs.Prelude.{ℕ, ◌+◌, ◌*◌, ◌/◌, ◌%◌, min, nat_lt, if◌then◌else◌}

-- a lane's first iteration and its number of iterations: the first lanes have one more where they don't come out even
abbrev pub even_share_of : ℕ → ℕ → ℕ → ℕ × ℕ
even_share_of total lane span =
    (lane * (total / span) + min lane (total % span), total / span + (if nat_lt lane (total % span) then 1 else 0))
