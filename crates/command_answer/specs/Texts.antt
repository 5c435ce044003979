-- The text that more than one command prints.
use Rattle.std.specs.Prelude.{ℕ, List, codes}

-- the folder to be written has an index
abbrev pub index_exists_text : List ℕ
index_exists_text = codes "index exists\n"
