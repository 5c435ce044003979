-- A listing of logs: for each its name and number of records, and then a line for each record.
use Rattle.std.specs.Prelude.{ℕ, ◌+◌, List, [], ◌∷◌, ◌++◌, length, codes, decimal, flat_map}
use Rattle.std.specs.Int.{w64, cast_signed}
use Rattle.std.specs.Fmt.{signed_decimal}
use Rattle.sw_base.specs.declared.path.Step.{Step}
use Rattle.sw_base.specs.Names.{bare_log_name}
use Rattle.log_format.specs.declared.record.Record.{Record}
use Rattle.log_format.specs.declared.record.Kind.{Kind}
use Rattle.log_format.specs.declared.record.Kind.TheVariants.{Read, Write, Lock, Unlock, Barrier, Region, Chunk, End, Update}
use Rattle.race_model.specs.Trace.{TaskLog, Trace}

-- the size of an access, and where it stands in the kernel
abbrev pub site_text : Record → List ℕ
site_text r = decimal r.size ++ codes " site " ++ decimal r.site ++ codes " line " ++ decimal r.line

-- an access with its address and its value, which is signed
abbrev pub access_text : Record → List ℕ
access_text r = site_text r ++ codes " addr " ++ decimal r.addr ++ codes " value " ++ signed_decimal (cast_signed w64 r.value)

-- what a record of this kind is, after its number
abbrev pub record_text : Kind → Record → List ℕ
record_text Read r = codes "read " ++ access_text r
record_text Write r = codes "write " ++ access_text r
record_text Lock r = codes "lock " ++ decimal r.addr ++ codes " line " ++ decimal r.line
record_text Unlock r = codes "unlock " ++ decimal r.addr ++ codes " line " ++ decimal r.line
record_text Barrier r = codes "barrier line " ++ decimal r.line
record_text Region r = codes "region " ++ decimal r.value ++ codes " line " ++ decimal r.line
record_text Chunk r = codes "chunk " ++ decimal r.addr ++ codes " of " ++ decimal r.value ++ codes " line " ++ decimal r.line
record_text End r = codes "end line " ++ decimal r.line
record_text Update r = codes "update " ++ access_text r

-- the line of record n
abbrev pub record_line : ℕ → Record → List ℕ
record_line n r = decimal n ++ codes " " ++ record_text r.kind r ++ codes "\n"

-- the lines of things that are numbered from n on
abbrev pub numbered : {X : Type 0} → (ℕ → X → List ℕ) → ℕ → List X → List ℕ
numbered line n [] = []
numbered line n (x ∷ xs) = line n x ++ numbered line (n + 1) xs

-- the lines of a log's records
abbrev pub records_text : List Record → List ℕ
records_text records = numbered record_line 1 records

abbrev pub log_line : List Step → ℕ → List ℕ
log_line path count = codes "log " ++ bare_log_name path ++ codes " records " ++ decimal count ++ codes "\n"

abbrev pub log_text : List Step → List Record → List ℕ
log_text path records = log_line path (length records) ++ records_text records

-- the logs in the order of their rows
abbrev pub show_text : Trace → List ℕ
show_text trace = flat_map (λ (task : TaskLog). log_text task.path task.records) trace
