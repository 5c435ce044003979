-- The values of elements: integers in two's complement, cut to the bytes that an element has.
use Rattle.std.specs.Prelude.{◌≡◌, ℕ, suc, ◌-◌, ◌*◌, ◌/◌, ◌^◌, ℤ, pos, negsuc, unsigned_abs, nat_lt, if◌then◌else◌, ◌⊎◌}
use Rattle.std.specs.Int.{w64, cast_unsigned, int_rem_euclid}

-- the number that n stands for in two's complement, where there are so many numbers
abbrev pub signed : ℕ → ℕ → ℤ
signed range n = if nat_lt n (range / 2) then pos n else negsuc (range - suc n)

-- z wrapped to the numbers from -range / 2 to range / 2 - 1: the one that differs from z by a multiple of the range
unfoldable pub wrapped : ℕ → ℤ → ℤ
wrapped range z = signed range (unsigned_abs (int_rem_euclid z (pos range)))

-- the widths of elements, in bytes
abbrev pub IsWidth : ℕ → Type 0
IsWidth width = (width ≡ 1) ⊎ (width ≡ 2) ⊎ (width ≡ 4) ⊎ (width ≡ 8)

-- the value that an element of so many bytes has after z is stored: its low bits, extended by their sign
abbrev pub fitted : ℤ → ℕ → ℤ
fitted z width = wrapped (2 ^ (8 * width)) z

-- the same of values as the 64 bits of a record's field, of which a sum may have more
abbrev pub fit : ℕ → ℕ → ℕ
fit bits width = cast_unsigned w64 (fitted (pos bits) width)

-- an element of so many bytes can have the value of these bits
abbrev pub CanHave : ℕ → ℕ → Type 0
CanHave width bits = fit bits width ≡ bits
