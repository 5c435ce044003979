-- The even shares of a team's lanes follow one another, from the first iteration to the last.
use Rattle.std.proofs.Common.{◌≡◌, ℕ, ◌+◌, ◌%◌, ◌<◌, min, nat_lt, if◌then◌else◌, arith}
use Rattle.std.proofs.Math.Nat.{mod-lt}
use Rattle.std.proofs.lemmas.Nat.{div-add-mod'}
use Rattle.std.proofs.lemmas.Bool.Decides.{nat_tests}
use Rattle.kernel_syntax.specs.Share.{even_share_of}

more_is : (lane over : ℕ) → min (lane + 1) over ≡ min lane over + (if nat_lt lane over then 1 else 0)
more_is lane over = grind (arith, nat_tests)

pub share_goes_on : (total lane span : ℕ) → (even_share_of total (lane + 1) span).0 ≡ (even_share_of total lane span).0 + (even_share_of total lane span).1
share_goes_on total lane span = grind (arith, more_is lane (total % span))

pub share_ends : (total span : ℕ) → 0 < span → (even_share_of total span span).0 ≡ total
share_ends total span some = let over = mod-lt total some in grind (arith, div-add-mod' total span)
