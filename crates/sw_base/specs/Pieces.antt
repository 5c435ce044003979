-- How a log of so many records is cut into pieces: the header, and then as many whole records a piece as a buffer holds. A record
-- has 24 bytes and the header 8.
use Rattle.std.specs.Prelude.{ℕ, suc, zero, ◌-◌, ◌*◌, ◌/◌, ◌%◌, List, [], ◌∷◌, ◌++◌, replicate, sum}

-- how many records a buffer of this size holds
abbrev pub records_in : ℕ → ℕ
records_in size = size / 24

-- the length of the piece of the records that are left, where there are some
abbrev pub rest_piece : ℕ → List ℕ
rest_piece zero = []
rest_piece (suc n) = 24 * suc n ∷ []

-- the lengths of the header and of the pieces that fill the buffer
abbrev pub full_pieces : ℕ → ℕ → List ℕ
full_pieces n size = 8 ∷ replicate (n / records_in size) (24 * records_in size)

-- the lengths of the pieces of a log of n records, from a buffer of this size
abbrev pub cut : ℕ → ℕ → List ℕ
cut n size = full_pieces n size ++ rest_piece (n % records_in size)

-- how many whole records stand in pieces of these lengths, after the header
abbrev pub kept : List ℕ → ℕ
kept lengths = (sum lengths - 8) / 24
