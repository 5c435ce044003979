-- The element of an array at an index.
use Rattle.std.proofs.Common.{◌≡◌, refl, ap, sym, ◌∙◌, ℕ, ◌+◌, ◌*◌, ◌<◌, List, ℤ, pos, negsuc, ◌≤ℤ◌, Some, false, arith, length, get_or}
use Rattle.std.specs.Prelude.{slice_get}
use Rattle.std.specs.Int.RustNames.{unsigned_abs, int_lt}
use Rattle.std.proofs.lemmas.Bool.Decides.{nat_tests}
use Rattle.std.proofs.lemmas.Int.{ints}
use Rattle.std.proofs.lemmas.Option.{slice_get_read}
use Rattle.kernel_syntax.specs.declared.syntax.Array.{Array}
use Rattle.kernel_model.specs.Value.{element_of, element_at}

pub array_found : (arrays : List Array) (k : ℕ) (a : Array) → k < length arrays → a ≡ get_or arrays k a → slice_get arrays k ≡ Some a
array_found arrays k a within is = slice_get_read arrays (length arrays) k a refl within is

inside_is : (a : Array) (i : ℤ) → pos 0 ≤ℤ i → unsigned_abs i < a.count →
    element_of (Some a) i ≡ Some (record { addr = a.base + unsigned_abs i * a.width; width = a.width })
inside_is a (pos n) low high = grind (arith, nat_tests)
inside_is a (negsuc n) low high = absurd (omega (arith, ints, low))

pub element_is : (arrays : List Array) (k : ℕ) (a : Array) (i : ℤ) (n addr width : ℕ) → slice_get arrays k ≡ Some a → pos 0 ≤ℤ i → n < a.count → n ≡ unsigned_abs i
    → addr ≡ a.base + n * a.width → width ≡ a.width → element_at arrays k i ≡ Some (record { addr = addr; width = width })
element_is arrays k a i n addr width found low high n_is addr_is width_is =
    ap (λ o. element_of o i) found
    ∙ inside_is a i low (omega (arith, n_is, high))
    ∙ ap (λ (m : ℕ). Some (record { addr = a.base + m * a.width; width = a.width })) (sym n_is)
    ∙ ap (λ (x : ℕ). Some (record { addr = x; width = a.width })) (sym addr_is)
    ∙ ap (λ (w : ℕ). Some (record { addr = addr; width = w })) (sym width_is)

-- what a comparison tells
pub above_is : (a b : ℤ) → int_lt a b ≡ false → b ≤ℤ a
above_is a b h = grind (arith, ints)
