-- The key of the access that a record is.
use Rattle.std.specs.Prelude.{ℕ, Bool, true, false, List}
use Rattle.log_format.specs.declared.record.Kind.{Kind}
use Rattle.log_format.specs.declared.record.Kind.TheVariants.{Read, Write, Lock, Unlock, Barrier, Region, Chunk, End, Update}
use Rattle.log_format.specs.declared.record.Record.{Record}
use Rattle.stride_summary.specs.declared.key.Key.{Key}

-- the record changes memory
abbrev pub is_write : Kind → Bool
is_write Read = false
is_write Write = true
is_write Lock = false
is_write Unlock = false
is_write Barrier = false
is_write Region = false
is_write Chunk = false
is_write End = false
is_write Update = true

-- the record reads and writes in one step
abbrev pub is_atomic : Kind → Bool
is_atomic Read = false
is_atomic Write = false
is_atomic Lock = false
is_atomic Unlock = false
is_atomic Barrier = false
is_atomic Region = false
is_atomic Chunk = false
is_atomic End = false
is_atomic Update = true

-- what tells an access under these mutexes apart but its address
abbrev pub key_at : Record → List ℕ → Key
key_at r held = record { write = is_write r.kind; atomic = is_atomic r.kind; size = r.size; site = r.site; line = r.line; held = held }
