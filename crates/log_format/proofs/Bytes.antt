-- The elements of a list from a place on, two, four or eight of them, and lists of bytes.
use Rattle.std.proofs.Common.{ℕ, zero, suc, ◌+◌, ◌^◌, ◌<◌, List, [], ◌∷◌, get_or, arith}
use Rattle.std.specs.Int.{w16, w32, w64, from_be_bytes}

-- the elements from a place on
abbrev pub two_at : List ℕ → ℕ → List ℕ
two_at bs i = get_or bs i 0 ∷ get_or bs (i + 1) 0 ∷ []

abbrev pub four_at : List ℕ → ℕ → List ℕ
four_at bs i = get_or bs i 0 ∷ get_or bs (i + 1) 0 ∷ get_or bs (i + 2) 0 ∷ get_or bs (i + 3) 0 ∷ []

abbrev pub eight_at : List ℕ → ℕ → List ℕ
eight_at bs i = get_or bs i 0 ∷ get_or bs (i + 1) 0 ∷ get_or bs (i + 2) 0 ∷ get_or bs (i + 3) 0 ∷ get_or bs (i + 4) 0 ∷ get_or bs (i + 5) 0 ∷ get_or bs (i + 6) 0 ∷ get_or bs (i + 7) 0 ∷ []

-- every number of a list is a byte
pub record AreBytes (xs : List ℕ) : Type 0 where
  pub each : (i : ℕ) → get_or xs i 0 < 256

no_bytes : AreBytes []
no_bytes = record { each = λ i. omega arith }

one_more : {x : ℕ} {xs : List ℕ} → x < 256 → AreBytes xs → AreBytes (x ∷ xs)
one_more {x} {xs} small rest = record { each = each } where
  each : (i : ℕ) → get_or (x ∷ xs) i 0 < 256
  each zero = small
  each (suc i) = rest.each i

pub two_bytes : (bs : List ℕ) (i : ℕ) → ((i : ℕ) → get_or bs i 0 < 256) → AreBytes (two_at bs i)
two_bytes bs i small = one_more (small i) (one_more (small (i + 1)) no_bytes)

pub four_bytes : (bs : List ℕ) (i : ℕ) → ((i : ℕ) → get_or bs i 0 < 256) → AreBytes (four_at bs i)
four_bytes bs i small = one_more (small i) (one_more (small (i + 1)) (one_more (small (i + 2)) (one_more (small (i + 3)) no_bytes)))

pub eight_bytes : (bs : List ℕ) (i : ℕ) → ((i : ℕ) → get_or bs i 0 < 256) → AreBytes (eight_at bs i)
eight_bytes bs i small =
    one_more (small i) (one_more (small (i + 1)) (one_more (small (i + 2)) (one_more (small (i + 3))
    (one_more (small (i + 4)) (one_more (small (i + 5)) (one_more (small (i + 6)) (one_more (small (i + 7)) no_bytes)))))))

-- the numbers that bytes spell are below their widths
pub two_bound : (a b : ℕ) → a < 256 → b < 256 → from_be_bytes w16 (a ∷ b ∷ []) < 2 ^ 16
two_bound a b p q = omega arith

pub four_bound : (a b c d : ℕ) → a < 256 → b < 256 → c < 256 → d < 256 → from_be_bytes w32 (a ∷ b ∷ c ∷ d ∷ []) < 2 ^ 32
four_bound a b c d p q r s = omega arith

pub eight_bound : (a b c d e f g h : ℕ) → a < 256 → b < 256 → c < 256 → d < 256 → e < 256 → f < 256 → g < 256 → h < 256
    → from_be_bytes w64 (a ∷ b ∷ c ∷ d ∷ e ∷ f ∷ g ∷ h ∷ []) < 2 ^ 64
eight_bound a b c d e f g h p q r s t u v w = omega arith
