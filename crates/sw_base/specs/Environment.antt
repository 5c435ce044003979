-- What the calls of the environment do to what it holds, and when they may fail.
use Rattle.std.specs.Prelude.{◌≡◌, ◌⊎◌, ℕ, ◌+◌, ◌-◌, ◌^◌, ◌<◌, ◌≤◌, min, if◌then◌else◌, List, [], ◌∷◌, ◌++◌, length, take, drop, map, Option, None, Some, Result, IsErrOf}
use Rattle.std.specs.Option.{option_map}
use Rattle.std.specs.Str.{bytes_eq}
use Rattle.sw_base.specs.declared.trouble.Trouble.{Trouble}
use Rattle.sw_base.specs.declared.trouble.Trouble.TheVariants.{Failed}

-- what a folder holds: the bytes under each name
abbrev pub Files : Type 0
Files = List ℕ → Option (List ℕ)

-- a log that a folder sealed: its name, and the lengths of its pieces
pub record Sealed : Type 0 where
  pub name : List ℕ
  pub lengths : List ℕ

-- what a folder tells
pub record Content : Type 0 where
  pub held : Files
  pub sealed : List Sealed

-- what calls that only read leave of a folder: what it tells, how often another call failed or a log with faults came back, and how
-- often a root's log was asked for
pub record FolderState : Type 0 where
  pub content : Option Content
  pub write_faults : ℕ
  pub roots : ℕ

-- what a log tells: its bytes, and the pieces that it took
pub record Text : Type 0 where
  pub bytes : List ℕ
  pub pieces : List (List ℕ)

-- a fact about what an object tells, where it tells it
abbrev pub WhereTold : {X : Type 0} → Option X → (X → Type 0) → Type 0
WhereTold {X} told P = (x : X) → told ≡ Some x → P x

-- one more in a count, which stands still at the end of its type
abbrev pub next_count : ℕ → ℕ
next_count count = min (count + 1) (2 ^ 64 - 1)

-- a count of faults rose
abbrev pub Rose : ℕ → ℕ → Type 0
Rose before now = next_count before ≤ now

-- a count never falls, and `Failed` is answered only where it rose
pub record HasCause {T : Type 0} (before now : ℕ) (result : Result T Trouble) : Type 0 where
  pub later : before ≤ now
  pub failed : IsErrOf result Failed → Rose before now

-- a folder takes over that a log or a file had faults
pub record TakesFaults (of_part before now : ℕ) : Type 0 where
  pub later : before ≤ now
  pub faulty : 0 < of_part → Rose before now

-- no file
abbrev pub no_files : Files
no_files = λ _. None

-- these files, with these bytes under this name
abbrev pub with_file : List ℕ → List ℕ → Files → Files
with_file name bytes files = λ other. if bytes_eq name other then Some bytes else files other

-- a folder after `put`
abbrev pub with_put : List ℕ → List ℕ → Content → Content
with_put name bytes content = record { held = with_file name bytes content.held; sealed = content.sealed }

-- what is kept of a log that is sealed: its bytes, and the lengths of its pieces
pub record Outline : Type 0 where
  pub bytes : List ℕ
  pub lengths : List ℕ

abbrev pub outline_of : Text → Outline
outline_of text = record { bytes = text.bytes; lengths = map length text.pieces }

-- a folder after a log with this name and outline was sealed
abbrev pub with_outline : List ℕ → Outline → Content → Content
with_outline name outline content = record {
  held = with_file name outline.bytes content.held;
  sealed = content.sealed ++ record { name = name; lengths = outline.lengths } ∷ [];
}

-- a folder after `seal` of a log with this name and text
abbrev pub with_log : List ℕ → Text → Content → Content
with_log name text content = with_outline name (outline_of text) content

-- the name is as before or holds a prefix of the bytes, and nothing else changed
pub record LeavesPrefix (old new : Option Content) (name bytes : List ℕ) : Type 0 where
  pub prefix : List ℕ
  pub rest : List ℕ
  pub parts : bytes ≡ prefix ++ rest
  pub leaves : (new ≡ old) ⊎ (new ≡ option_map (with_put name prefix) old)

-- n bytes of the file from `at` on stand at the start of `into`, and none only where there is no room or no byte
pub record Reads (file : List ℕ) (at n : ℕ) (into : List ℕ) : Type 0 where
  pub within : n ≤ length file - at
  pub prefix : take n into ≡ take n (drop at file)
  pub some : 0 < length into → at < length file → 0 < n

-- a log without a byte
abbrev pub empty_text : Text
empty_text = record { bytes = []; pieces = [] }

-- a log after `append`
abbrev pub with_piece : List ℕ → Text → Text
with_piece piece text = record { bytes = text.bytes ++ piece; pieces = text.pieces ++ piece ∷ [] }

-- a log after an `append` that failed with these bytes written
abbrev pub with_torn : List ℕ → Text → Text
with_torn prefix text = record { bytes = text.bytes ++ prefix; pieces = text.pieces }

-- a prefix of the piece may stand at the end of the bytes, and the pieces are as before
pub record TearsPiece (old new : Option Text) (piece : List ℕ) : Type 0 where
  pub prefix : List ℕ
  pub rest : List ℕ
  pub parts : piece ≡ prefix ++ rest
  pub tears : new ≡ option_map (with_torn prefix) old

-- what was written, and this piece
abbrev pub gained : Option (List ℕ) → List ℕ → Option (List ℕ)
gained written piece = option_map (λ bytes. bytes ++ piece) written

-- a prefix of the piece may have been written
pub record GainsPrefix (old new : Option (List ℕ)) (piece : List ℕ) : Type 0 where
  pub prefix : List ℕ
  pub rest : List ℕ
  pub parts : piece ≡ prefix ++ rest
  pub gains : new ≡ gained old prefix
