-- Elements at places of a list.
use Rattle.std.proofs.Common.{◌≡◌, ℕ, zero, suc, arith, List, [], ◌∷◌, Some, ap}
use Rattle.std.specs.Prelude.{slice_get, Contains}
use Rattle.std.proofs.lemmas.Option.{slice_get_within, get_or_from_slice_get}

pub contains_got : {X : Type 0} (xs : List X) (i : ℕ) (x : X) → slice_get xs i ≡ Some x → Contains xs x
contains_got xs i x found = (i, slice_get_within xs i x found, get_or_from_slice_get xs i x x found)

pub got_contains : {X : Type 0} (xs : List X) (x : X) → Contains xs x → (i : ℕ) × (slice_get xs i ≡ Some x)
got_contains [] x (i, within, is) = absurd (omega arith)
got_contains (y ∷ xs) x (zero, within, is) = (0, ap (λ (z : _). Some z) is)
got_contains (y ∷ xs) x (suc i, within, is) = let at = got_contains xs x (i, omega arith, is) in (suc at.0, at.1)
