-- Which records were put into a buffer, and what its log has of them.
use Rattle.std.specs.Prelude.{◌≡◌, ℕ, ◌+◌, ◌*◌, ◌≤◌, List, ◌∷◌, ◌++◌, length, map, replicate, None}
use Rattle.std.specs.List.{flat_map}
use Rattle.sw_base.specs.Environment.{Text, WhereTold}
use Rattle.sw_base.specs.Pieces.{records_in, cut, kept}
use Rattle.log_format.specs.declared.record.Record.{Record}
use Rattle.log_format.specs.Spelling.{log_bytes}
use Rattle.event_buffer.specs.Buffered.{Buffered}

-- the bytes of these pieces, one after another
abbrev pub joined : List (List ℕ) → List ℕ
joined pieces = flat_map (λ (piece : List ℕ). piece) pieces

-- a log's bytes are its pieces and a prefix of these
pub record IsTorn (text : Text) (bytes_due : List ℕ) : Type 0 where
  pub torn : List ℕ
  pub rest : List ℕ
  pub bytes : text.bytes ≡ joined text.pieces ++ torn
  pub parts : bytes_due ≡ torn ++ rest

-- what the log doesn't have yet
abbrev pub due : Buffered → List ℕ
due b = b.sent ++ b.waiting

-- each piece behind the header has as many whole records as a block may hold; so many were sent, or none; and the others wait, at
-- most so many
pub record IsFilled (b : Buffered) : Type 0 where
  pub full : ℕ
  pub away : ℕ
  pub rest : ℕ
  pub count : b.count ≡ (full + away) * records_in b.size + rest
  pub one : away ≤ 1
  pub most : rest ≤ records_in b.size
  pub sent : length b.sent ≡ 24 * (away * records_in b.size)
  pub waiting : length b.waiting ≡ 24 * rest
  pub lengths : WhereTold b.text (λ text. map length text.pieces ≡ 8 ∷ replicate full (24 * records_in b.size))

-- just these records were put: the pieces, what was sent and what waits behind it are the header and the records, and unless a call
-- was refused the pieces are all of the log
pub record HoldsRecords (header : List ℕ) (b : Buffered) (records : List Record) : Type 0 where
  pub count : b.count ≡ length records
  pub bytes : WhereTold b.text (λ text. joined text.pieces ++ due b ≡ log_bytes header records)
  pub torn : WhereTold b.text (λ text. IsTorn text (due b))
  pub whole : b.refused ≡ None → WhereTold b.text (λ text. text.bytes ≡ joined text.pieces)
  pub filled : IsFilled b

-- a log has all of these records, in pieces that fill the block
pub record HasAll (header : List ℕ) (records : List Record) (size : ℕ) (text : Text) : Type 0 where
  pub bytes : text.bytes ≡ log_bytes header records
  pub pieces : text.bytes ≡ joined text.pieces
  pub lengths : map length text.pieces ≡ cut (length records) size

-- a log has its pieces, and perhaps a prefix of the next one, of a log of these records, and at most two blocks of records
-- aren't in the pieces
pub record KeepsPrefix (header : List ℕ) (records : List Record) (size : ℕ) (text : Text) : Type 0 where
  pub torn : List ℕ
  pub missing : List ℕ
  pub bytes : text.bytes ≡ joined text.pieces ++ torn
  pub prefix : log_bytes header records ≡ text.bytes ++ missing
  pub behind : length records ≤ kept (map length text.pieces) + 2 * records_in size
