-- Sums of signed values.
use Rattle.std.proofs.Common.{◌≡◌, ◌<◌, ℕ, ◌+◌, ◌+ℤ◌, List, length, get_or, drop}
use Rattle.std.specs.Int.{w64, cast_signed}
use Rattle.std.proofs.lemmas.List.{at_drop_more}
use Rattle.command_answer.specs.RunTexts.{sum_of}

-- the next value, and the rest
pub sum_of-drop : (values : List ℕ) (i : ℕ) → i < length values → sum_of (drop i values) ≡ cast_signed w64 (get_or values i 0) +ℤ sum_of (drop (i + 1) values)
sum_of-drop values i within = at_drop_more sum_of values i 0 within
