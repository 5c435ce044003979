-- A log that is read through a window: what is left of it, and its count of faults.
use Rattle.std.specs.Prelude.{◌≡◌, ℕ, ◌≤◌, List, ◌++◌, Option, Some}
use Rattle.std.specs.Option.{option_map}
use Rattle.sw_base.specs.Environment.{Content, Rose, WhereTold}

-- what wasn't passed of a file: the bytes ahead, and those that are still to be read, where the file tells them
abbrev pub unread : List ℕ → Option (List ℕ) → Option (List ℕ)
unread ahead rest = option_map (λ bytes. ahead ++ bytes) rest

-- a count of faults never falls: it rose where the answer is that a read failed, and stays at every other answer
pub record CountsFaults (old new : ℕ) (failed : Type 0) : Type 0 where
  pub later : old ≤ new
  pub cause : failed → Rose old new
  pub no_fault : (failed → ⊥) → new ≡ old

-- the file of this name is there, and this is what is left of it
abbrev pub OpensFile : Option Content → List ℕ → Option (List ℕ) → Type 0
OpensFile told name rest = WhereTold told (λ c. (bytes : List ℕ) × (c.held name ≡ Some bytes) × (rest ≡ Some bytes))
