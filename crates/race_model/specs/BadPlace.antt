-- The places at which a folder of logs can be bad, and their order: the index before the logs, the logs in the order of
-- their rows, and in each the records by number.
use Rattle.std.specs.Prelude.{◌≡◌, ℕ, List, [], ◌∷◌}
use Rattle.std.specs.Cmp.Lexicographic.{slice_cmp}
use Rattle.std.specs.Ordering.{nat_cmp}
use Rattle.std.specs.declared.cmp.Ordering.TheVariants.{Less}
use Rattle.race_model.specs.declared.why.IndexWhy.{IndexWhy}
use Rattle.race_model.specs.declared.why.IndexWhy.TheVariants as index
use Rattle.race_model.specs.declared.why.RecordWhy.{RecordWhy}
use Rattle.race_model.specs.declared.why.RecordWhy.TheVariants as log

-- rows and records are numbered from 1; row 0 and record 0 are the headers
pub data BadPlace : Type 0 where
  no_index : BadPlace
  bad_row : ℕ → IndexWhy → BadPlace
  missing_log : ℕ → BadPlace
  bad_record : ℕ → ℕ → RecordWhy → BadPlace
  too_many_segments : ℕ → ℕ → BadPlace

-- the order in which the rules of one row are tried
abbrev pub index_rank : IndexWhy → ℕ
index_rank index.Old = 0
index_rank index.Header = 1
index_rank index.TooMany = 2
index_rank index.Cut = 3
index_rank index.Depth = 4
index_rank index.Span = 5
index_rank index.Lane = 6
index_rank index.Order = 7
index_rank index.Records = 8

-- the order in which the rules of one record are tried
abbrev pub record_rank : RecordWhy → ℕ
record_rank log.Header = 0
record_rank log.Cut = 1
record_rank log.Kind = 2
record_rank log.Size = 3
record_rank log.LineZero = 4
record_rank log.Address = 5
record_rank log.Span = 6
record_rank log.Reserved = 7
record_rank log.EndEarly = 8
record_rank log.EndMissing = 9
record_rank log.LockTwice = 10
record_rank log.LocksDeep = 11
record_rank log.UnlockOther = 12
record_rank log.RootBarrier = 13
record_rank log.BarrierLocked = 14
record_rank log.RegionLocked = 15
record_rank log.LockOpen = 16
record_rank log.RegionRows = 17
record_rank log.BarrierCount = 18
record_rank log.Extra = 19

-- the rank of a segment that is one too many: after every rule of its record
abbrev pub last_rank : ℕ
last_rank = 20

-- the index, or a log by its row; then the row or the record by number; then the rule
abbrev pub place_key : BadPlace → List ℕ
place_key no_index = 0 ∷ []
place_key (bad_row n why) = 1 ∷ n ∷ index_rank why ∷ []
place_key (missing_log row) = 2 ∷ row ∷ []
place_key (bad_record row n why) = 2 ∷ row ∷ n ∷ record_rank why ∷ []
place_key (too_many_segments row n) = 2 ∷ row ∷ n ∷ last_rank ∷ []

abbrev pub IsEarlier : BadPlace → BadPlace → Type 0
IsEarlier p q = slice_cmp nat_cmp (place_key p) (place_key q) ≡ Less

-- the place is where a segment is one too many
abbrev pub IsTooMany : BadPlace → Type 0
IsTooMany (too_many_segments row n) = Unit {0}
IsTooMany _ = ⊥
