-- Where the arrays lie: their addresses and their places among all elements.
use Rattle.std.specs.Prelude.{◌≡◌, ℕ, ◌+◌, ◌*◌, ◌/◌, ◌^◌, ◌<◌, ◌≤◌, List, [], ◌∷◌, length, sum_by, Some, slice_get}
use Rattle.kernel_syntax.specs.declared.syntax.Array.{Array}
use Rattle.log_format.specs.Fitting.{IsWidth}

-- the least multiple of 64 that is not below n
abbrev pub aligned : ℕ → ℕ
aligned n = (n + 63) / 64 * 64

-- the arrays laid out from this address and this element on
abbrev pub laid_from : ℕ → ℕ → List Array → List Array
laid_from base first [] = []
laid_from base first (a ∷ rest) =
    record a { base = base; first = first } ∷ laid_from (aligned (base + a.width * a.count)) (first + a.count) rest

-- the layout of a kernel's arrays: the first base is 4096, and elements are counted from 0
abbrev pub laid : List Array → List Array
laid arrays = laid_from 4096 0 arrays

-- how many elements the arrays have
abbrev pub elements : List Array → ℕ
elements arrays = sum_by (λ a. a.count) arrays

-- at most 64 arrays, with at most 1,048,576 elements in all
pub record IsWithinLimits (arrays : List Array) : Type 0 where
  pub few : length arrays ≤ 64
  pub small : elements arrays ≤ 1048576

-- an array whose elements have places among so many, and addresses below 2 ^ 48
pub record IsPlaced (words : ℕ) (a : Array) : Type 0 where
  pub width : IsWidth a.width
  pub inside : a.first + a.count ≤ words
  pub ends : a.base + a.count * a.width ≤ 2 ^ 48

-- all arrays, in a table of fewer than 2 ^ 31 numbers
pub record ArePlaced (arrays : List Array) (words : ℕ) : Type 0 where
  pub few : words < 2 ^ 31
  pub each : (k : ℕ) (a : Array) → slice_get arrays k ≡ Some a → IsPlaced words a
