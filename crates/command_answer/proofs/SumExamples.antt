-- Values and sums of arrays, worked out by hand.
use Rattle.std.proofs.Common.{◌≡◌, refl, [], ◌∷◌, ◌-◌, ◌^◌, pos, negsuc}
use Rattle.std.specs.Prelude.{codes}
use Rattle.kernel_syntax.specs.declared.syntax.Array.{Array}
use Rattle.command_answer.specs.RunTexts.{sum_of, values_of}

-- an array of two elements after another of two
abbrev second : Array
second = record { name = codes "b"; width = 8; count = 2; base = 4160; first = 2 }

its_values : values_of second (3 ∷ 4 ∷ 5 ∷ 6 ∷ []) ≡ 5 ∷ 6 ∷ []
its_values = refl

-- a value from 2 ^ 63 on is negative
sums_are_signed : sum_of (((2 ^ 64) - 56) ∷ []) ≡ negsuc 55
sums_are_signed = refl

-- a sum isn't wrapped to 64 bits
sums_are_exact : sum_of (((2 ^ 63) - 1) ∷ 1 ∷ []) ≡ pos (2 ^ 63)
sums_are_exact = refl
