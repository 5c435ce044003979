-- What is seen of a log with a block before it, and what becomes of it where the block is appended.
use Rattle.std.specs.Prelude.{◌≡◌, ℕ, ◌<◌, ◌≤◌, List, [], ◌∷◌, ◌++◌, length, Option, Some, None}
use Rattle.std.specs.Option.{option_map}
use Rattle.sw_base.specs.Environment.{Text, Rose, TearsPiece, empty_text, with_piece}
use Rattle.sw_base.specs.declared.path.Step.{Step}
use Rattle.sw_base.specs.declared.trouble.Trouble.{Trouble}
use Rattle.sw_base.specs.declared.trouble.Trouble.TheVariants.{Failed, Memory}

-- the log's folder, path, text and count of faults; how many bytes the block may hold, and those that the log hasn't yet; and why
-- a call on the log was refused, if one was
pub record Held : Type 0 where
  pub dir : List ℕ
  pub path : List Step
  pub text : Option Text
  pub faults : ℕ
  pub size : ℕ
  pub pending : List ℕ
  pub refused : Option Trouble

-- the block's bytes are one piece more of the log, and the block is empty
abbrev pub appended : Held → Held
appended h = record h { text = option_map (with_piece h.pending) h.text; pending = [] }

-- a log's text with these bytes as one piece more, if there are any: no piece is empty
abbrev pub settled_text : List ℕ → Option Text → Option Text
settled_text [] text = text
settled_text (byte ∷ bytes) text = option_map (with_piece (byte ∷ bytes)) text

-- all that is pending is appended
abbrev pub settled : Held → Held
settled h = record h { text = settled_text h.pending h.text; pending = [] }

-- all is appended, and then these bytes wait
abbrev pub given : List ℕ → Held → Held
given bytes h = record (settled h) { pending = bytes }

-- a log refused a piece: it may have a prefix of it, or has nothing of it where no memory was found
pub record RefusesPiece (trouble : Trouble) (piece : List ℕ) (old new : Option Text) (before now : ℕ) : Type 0 where
  pub tears : TearsPiece old new piece
  pub memory : trouble ≡ Memory → (new ≡ old) × (now ≡ before)
  pub failed : trouble ≡ Failed → Rose before now
  pub later : before ≤ now

-- the log refused what is pending
pub record RefusesPending (trouble : Trouble) (old new : Held) : Type 0 where
  pub is : new ≡ record old { text = new.text; faults = new.faults; refused = Some trouble }
  pub refuses : RefusesPiece trouble old.pending old.text new.text old.faults new.faults

-- a call on the log was refused that leaves its text
pub record IsStoppedBy (trouble : Trouble) (old new : Held) : Type 0 where
  pub is : new ≡ record old { faults = new.faults; refused = Some trouble }
  pub memory : trouble ≡ Memory → new.faults ≡ old.faults
  pub failed : trouble ≡ Failed → Rose old.faults new.faults
  pub later : old.faults ≤ new.faults

-- a new empty log of the same folder, one step below: its folder, path, text and count of faults
pub record IsNewChild (h : Held) (step : Step) (dir : List ℕ) (path : List Step) (text : Option Text) (faults : ℕ) : Type 0 where
  pub same_dir : dir ≡ h.dir
  pub below : path ≡ h.path ++ step ∷ []
  pub empty : text ≡ option_map (λ _. empty_text) h.text
  pub no_faults : faults ≡ 0

-- what a writer may give back: the block is appended, or refused
pub record IsSentBack (sent back : Held) : Type 0 where
  pub done : back.refused ≡ None → back ≡ appended sent
  pub refused : (trouble : Trouble) → back.refused ≡ Some trouble → RefusesPending trouble sent back

-- what is pending is appended, or refused; after a refusal nothing changes any more
pub record EndsPending (old new : Held) : Type 0 where
  pub again : (trouble : Trouble) → old.refused ≡ Some trouble → new ≡ old
  pub done : old.refused ≡ None → new.refused ≡ None → new ≡ settled old
  pub refused : old.refused ≡ None → (trouble : Trouble) → new.refused ≡ Some trouble → RefusesPending trouble old new

-- a refusal by the environment comes only where the log counts a fault, and a log that refused nothing counts none
pub record IsCounted (h : Held) : Type 0 where
  pub fault : h.refused ≡ Some Failed → 0 < h.faults
  pub no_fault : h.refused ≡ None → h.faults ≡ 0
