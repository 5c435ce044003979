-- The arrays of a kernel within its bounds are placed: each has its elements among all, and its addresses are below 2 ^ 48.
use Rattle.std.proofs.Common.{◌≡◌, subst, inl, inr, ℕ, zero, suc, ◌+◌, ◌*◌, ◌^◌, ◌≤◌, List, [], ◌∷◌, length, Some, slice_get, All, arith, le_refl}
use Rattle.std.proofs.lemmas.Nat.{mul-le}
use Rattle.std.proofs.lemmas.Option.{same_Some}
use Rattle.std.proofs.lemmas.List.Sums.{sum_by-cons}
use Rattle.std.proofs.lemmas.List.Elements.{All-head, All-tail}
use Rattle.kernel_syntax.specs.declared.syntax.Array.{Array}
use Rattle.log_format.specs.Fitting.{IsWidth}
use Rattle.kernel_syntax.specs.Layout.{laid_from, aligned, elements, IsPlaced, ArePlaced}
use Rattle.kernel_syntax.specs.Program.{Program}
use Rattle.kernel_syntax.specs.Bounds.{IsBounded}
use Rattle.kernel_syntax.proofs.Laying.{placed, HasWidth, aligned-near}

-- no width is above 8 bytes
width-limit : (width : ℕ) → IsWidth width → width ≤ 8
width-limit width (inl is) = omega arith
width-limit width (inr (inl is)) = omega arith
width-limit width (inr (inr (inl is))) = omega arith
width-limit width (inr (inr (inr is))) = omega arith

-- an array has at most 8 bytes an element
bytes-limit : (width count : ℕ) → IsWidth width → (width * count ≤ 8 * count) × (count * width ≤ 8 * count)
bytes-limit width count is =
    let limit = width-limit width is in
    let by_count = mul-le count width count 8 (le_refl count) limit in
    (mul-le width count 8 count limit (le_refl count), omega arith)

-- arrays laid out from this base and this element on, where eight bytes an element and a gap of 63 an array end below 2 ^ 48
laid_from-placed : (words base first : ℕ) (xs : List Array) → All HasWidth xs
    → first + elements xs ≤ words → base + 8 * elements xs + 63 * length xs ≤ 2 ^ 48
    → (k : ℕ) (a : Array) → slice_get (laid_from base first xs) k ≡ Some a → IsPlaced words a
laid_from-placed words base first [] widths inside ends k a at = absurd cc
laid_from-placed words base first (x ∷ xs) widths inside ends zero a at =
    let width = All-head HasWidth x xs widths in
    let bytes = bytes-limit x.width x.count width in
    let count = sum_by-cons (λ (b : Array). b.count) x xs in
    subst (IsPlaced words) (same_Some (placed base first x) a at) (record { width = width; inside = omega arith; ends = omega arith })
laid_from-placed words base first (x ∷ xs) widths inside ends (suc k) a at =
    let bytes = bytes-limit x.width x.count (All-head HasWidth x xs widths) in
    let count = sum_by-cons (λ (b : Array). b.count) x xs in
    let near = aligned-near (base + x.width * x.count) in
    laid_from-placed words (aligned (base + x.width * x.count)) (first + x.count) xs (All-tail HasWidth x xs widths) (omega arith) (omega arith) k a at

-- the arrays of a kernel within its bounds, in a table of as many numbers as they have elements
pub bounded_arrays_are_placed : (program : Program) → IsBounded program → ArePlaced program.arrays (elements program.arrays)
bounded_arrays_are_placed program is =
    let arrays = program.arrays in
    let small = is.limits.small in
    let few = is.limits.few in
    let ends : 4096 + 8 * elements arrays + 63 * length arrays ≤ 2 ^ 48 = omega arith in
    let inside : 0 + elements arrays ≤ elements arrays = omega arith in
    let each = laid_from-placed (elements arrays) 4096 0 arrays is.widths inside ends in
    record {
      few = omega arith;
      each = λ k a at. each k a (subst (λ (xs : List Array). slice_get xs k ≡ Some a) is.placed at);
    }
