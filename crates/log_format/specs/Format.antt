-- What a format fixes: what logs and indexes begin with, and which kinds of records there are.
use Rattle.std.specs.Prelude.{ℕ, ◌≤◌, List, Option, None, Some}
use Rattle.sw_base.specs.declared.files.TheConstants.{LOG_HEADER, INDEX_HEADER, OLD_LOG_HEADER, OLD_INDEX_HEADER}
use Rattle.log_format.specs.declared.format.Format.{Format}
use Rattle.log_format.specs.declared.format.Format.TheVariants.{First, Second}
use Rattle.log_format.specs.declared.record.Kind.{Kind}
use Rattle.log_format.specs.Spelling.{kind_code}

-- the eight bytes that a log begins with
abbrev pub log_header : Format → List ℕ
log_header First = OLD_LOG_HEADER
log_header Second = LOG_HEADER

-- the eight bytes that an index begins with
abbrev pub index_header : Format → List ℕ
index_header First = OLD_INDEX_HEADER
index_header Second = INDEX_HEADER

-- the eight bytes that an index of the format before this one begins with
abbrev pub older_header : Format → Option (List ℕ)
older_header First = None
older_header Second = Some OLD_INDEX_HEADER

-- the greatest number of a kind
abbrev pub last_code : Format → ℕ
last_code First = 8
last_code Second = 9

-- the format has records of this kind
abbrev pub AllowsKind : Format → Kind → Type 0
AllowsKind format kind = kind_code kind ≤ last_code format
