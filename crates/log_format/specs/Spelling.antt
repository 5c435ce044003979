-- How a record is spelled, and the bytes of a log.
use Rattle.std.specs.Prelude.{ℕ, List, ◌∷◌, ◌++◌}
use Rattle.std.specs.Int.{w16, w32, w64, to_be_bytes}
use Rattle.std.specs.List.{flat_map}
use Rattle.log_format.specs.declared.record.Kind.{Kind}
use Rattle.log_format.specs.declared.record.Kind.TheVariants.{Read, Write, Lock, Unlock, Barrier, Region, Chunk, End, Update}
use Rattle.log_format.specs.declared.record.Record.{Record}

-- the number of a kind
abbrev pub kind_code : Kind → ℕ
kind_code Read = 1
kind_code Write = 2
kind_code Lock = 3
kind_code Unlock = 4
kind_code Barrier = 5
kind_code Region = 6
kind_code Chunk = 7
kind_code End = 8
kind_code Update = 9

-- the 24 bytes of a record: kind and size, then site, line, address and value, each high byte first
unfoldable pub spelling : Record → List ℕ
spelling r = kind_code r.kind ∷ r.size ∷ to_be_bytes w16 r.site ++ to_be_bytes w32 r.line ++ to_be_bytes w64 r.addr ++ to_be_bytes w64 r.value

-- a log: its header, and then its records
abbrev pub log_bytes : List ℕ → List Record → List ℕ
log_bytes header records = header ++ flat_map spelling records
