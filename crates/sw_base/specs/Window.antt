-- A file that is read through a window: where in it the next byte stands, and the bytes from there that were read ahead.
use Rattle.std.specs.Prelude.{◌≡◌, ℕ, ◌+◌, List, [], length, take, drop, unwrap_or, Some}
use Rattle.sw_base.specs.Environment.{Content}

pub record Window : Type 0 where
  pub place : ℕ
  pub ahead : List ℕ

-- before the first byte of a file
abbrev pub at_start : Window
at_start = record { place = 0; ahead = [] }

-- past so many of the bytes ahead
abbrev pub skipped : ℕ → Window → Window
skipped count window = record { place = window.place + count; ahead = drop count window.ahead }

-- the bytes under the name; none where there is no file
abbrev pub file_of : Content → List ℕ → List ℕ
file_of content name = unwrap_or (content.held name) []

-- there is a file of this name
abbrev pub HoldsFile : Content → List ℕ → Type 0
HoldsFile content name = content.held name ≡ Some (file_of content name)

-- the bytes ahead are the file's
abbrev pub Shows : Window → List ℕ → Type 0
Shows window file = window.ahead ≡ take (length window.ahead) (drop window.place file)

-- so many of the file's next bytes are ahead, or all where there are fewer
abbrev pub ShowsNext : ℕ → Window → List ℕ → Type 0
ShowsNext count window file = take count window.ahead ≡ take count (drop window.place file)
