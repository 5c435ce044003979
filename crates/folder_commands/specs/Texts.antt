-- The texts of the commands that read a folder, each a line.
use Rattle.std.specs.Prelude.{ℕ, List, ◌++◌, codes, decimal}
use Rattle.sw_base.specs.declared.path.Step.{Step}
use Rattle.sw_base.specs.Names.{bare_log_name}
use Rattle.explain.specs.declared.explaining.RacePair.{RacePair}
use Rattle.race_model.specs.declared.why.IndexWhy.{IndexWhy}
use Rattle.race_model.specs.declared.why.IndexWhy.TheVariants as index
use Rattle.race_model.specs.declared.why.RecordWhy.{RecordWhy}
use Rattle.race_model.specs.declared.why.RecordWhy.TheVariants as log

abbrev pub no_index_text : List ℕ
no_index_text = codes "no index\n"

abbrev pub index_why_name : IndexWhy → List ℕ
index_why_name index.Old = codes "Old"
index_why_name index.Header = codes "Header"
index_why_name index.TooMany = codes "TooMany"
index_why_name index.Cut = codes "Cut"
index_why_name index.Depth = codes "Depth"
index_why_name index.Span = codes "Span"
index_why_name index.Lane = codes "Lane"
index_why_name index.Order = codes "Order"
index_why_name index.Records = codes "Records"

abbrev pub record_why_name : RecordWhy → List ℕ
record_why_name log.Header = codes "Header"
record_why_name log.Cut = codes "Cut"
record_why_name log.Kind = codes "Kind"
record_why_name log.Size = codes "Size"
record_why_name log.LineZero = codes "LineZero"
record_why_name log.Address = codes "Address"
record_why_name log.Span = codes "Span"
record_why_name log.Reserved = codes "Reserved"
record_why_name log.EndEarly = codes "EndEarly"
record_why_name log.EndMissing = codes "EndMissing"
record_why_name log.LockTwice = codes "LockTwice"
record_why_name log.LocksDeep = codes "LocksDeep"
record_why_name log.UnlockOther = codes "UnlockOther"
record_why_name log.RootBarrier = codes "RootBarrier"
record_why_name log.BarrierLocked = codes "BarrierLocked"
record_why_name log.RegionLocked = codes "RegionLocked"
record_why_name log.LockOpen = codes "LockOpen"
record_why_name log.RegionRows = codes "RegionRows"
record_why_name log.BarrierCount = codes "BarrierCount"
record_why_name log.Extra = codes "Extra"

-- row n of the index is bad
abbrev pub bad_row_text : ℕ → IndexWhy → List ℕ
bad_row_text n why = codes "bad index row " ++ decimal n ++ codes ": " ++ index_why_name why ++ codes "\n"

abbrev pub missing_log_text : List Step → List ℕ
missing_log_text path = codes "missing log " ++ bare_log_name path ++ codes "\n"

-- record n of the log is bad
abbrev pub bad_record_text : List Step → ℕ → RecordWhy → List ℕ
bad_record_text path n why = codes "bad log " ++ bare_log_name path ++ codes " record " ++ decimal n ++ codes ": " ++ record_why_name why ++ codes "\n"

-- record n of the log opens one segment too many
abbrev pub too_many_segments_text : List Step → ℕ → List ℕ
too_many_segments_text path n = codes "too many segments at " ++ bare_log_name path ++ codes " record " ++ decimal n ++ codes "\n"

-- so many logs were brought over
abbrev pub upgraded_text : ℕ → List ℕ
upgraded_text count = codes "upgraded " ++ decimal count ++ codes "\n"

abbrev pub same_text : List ℕ
same_text = codes "same\n"

-- record n of the log is the first that isn't the kernel's
abbrev pub differs_text : List Step → ℕ → List ℕ
differs_text path n = codes "differs " ++ bare_log_name path ++ codes " record " ++ decimal n ++ codes "\n"

-- two records race, first at this byte
abbrev pub race_byte_text : ℕ → List ℕ
race_byte_text byte = codes "race byte " ++ decimal byte ++ codes "\n"

-- two records don't race
abbrev pub no_race_text : List ℕ
no_race_text = codes "no race\n"

-- a record by its row, the name of its log and its number
abbrev pub place_text : ℕ → List Step → ℕ → List ℕ
place_text row path number = codes "row " ++ decimal row ++ codes " " ++ bare_log_name path ++ codes " record " ++ decimal number

-- two records race, first at this byte
abbrev pub race_text : RacePair → List Step → List Step → List ℕ
race_text found one other = codes "race " ++ place_text found.first_row one found.first ++ codes " " ++ place_text found.second_row other found.second ++ codes " byte " ++ decimal found.byte ++ codes "\n"

-- these lines are no race pair
abbrev pub no_race_pair_text : ℕ → ℕ → List ℕ
no_race_pair_text low high = codes "no race " ++ decimal low ++ codes " " ++ decimal high ++ codes "\n"
