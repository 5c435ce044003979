-- Places at which multiples of two strides lie apart by a number of a window.
use Rattle.std.specs.Prelude.{ℕ, ◌+◌, ◌*◌, ◌≤◌}

-- the place's multiple of the stride is from low to high above the other's
pub record Meets (stride other low high i j : ℕ) : Type 0 where
  pub above : low + j * other ≤ i * stride
  pub below : i * stride ≤ high + j * other
