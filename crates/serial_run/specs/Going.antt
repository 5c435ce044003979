-- How a task goes on over a vector of words: what its records and its locals have to do with the meaning of what it executes.
use Rattle.std.specs.Prelude.{◌≡◌, ◌⊎◌, ℕ, ◌+◌, ◌-◌, ◌<◌, ◌≤◌, min, List, [], ◌∷◌, ◌++◌, length, slice_index, slice_set, ℤ, Result, Ok, Err}
use Rattle.std.specs.List.{flat_map}
use Rattle.log_format.specs.Limit.{record_limit}
use Rattle.log_format.specs.declared.record.Record.{Record}
use Rattle.log_format.specs.declared.record.Kind.{Kind}
use Rattle.log_format.specs.declared.record.Kind.TheVariants as kind
use Rattle.log_format.specs.Fitting.{fit, CanHave}
use Rattle.log_format.specs.Spelling.{spelling}
use Rattle.kernel_model.specs.declared.stop.StopWhy.TheVariants as reason
use Rattle.kernel_model.specs.State.{State, Outcome}
use Rattle.kernel_model.specs.Effect.{Finish, Returned, Halted, Makes, adds}
use Rattle.serial_run.specs.declared.halt.Halt.{Halt}
use Rattle.serial_run.specs.declared.halt.Halt.TheVariants as halt
use Rattle.serial_run.specs.declared.memory.SerialMemory.{SerialMemory}
use Rattle.serial_run.specs.declared.track.Track.{Track}
use Rattle.serial_run.specs.Placing.{Bound, OfLog, OfRun, ElementLayout, IsInPlace}

-- what changes with each record: the task's log, the words of all elements, and how many records may still be made
pub record SerialProgress : Type 0 where
  pub log : List ℕ
  pub count : ℕ
  pub words : List ℕ
  pub left : ℕ

abbrev pub serial_progress : Track → SerialMemory → SerialProgress
serial_progress track memory = record { log = track.log.items; count = track.count; words = memory.words.items; left = memory.left }

-- how many records more the bound lets a task make
abbrev pub room_of : Bound → SerialProgress → ℕ
room_of OfLog p = record_limit - p.count
room_of OfRun p = min (record_limit - p.count) p.left

-- a read has the value of its element in its word, and a write one that its element can have
abbrev pub FindsValue : ElementLayout → Kind → Record → List ℕ → Type 0
FindsValue layout kind.Read r words = IsInPlace layout r × (r.value ≡ fit (slice_index words (layout.words.word r.addr)) r.size)
FindsValue layout kind.Write r words = IsInPlace layout r × CanHave r.size r.value
FindsValue layout _ r words = Unit {0}

-- a write leaves its value there
abbrev pub words_after : ElementLayout → Kind → Record → List ℕ → List ℕ
words_after layout kind.Write r words = slice_set words (layout.words.word r.addr) r.value
words_after layout _ r words = words

-- the records find the words so, one after another, and leave them so
abbrev pub Finds : ElementLayout → List Record → List ℕ → List ℕ → Type 0
Finds layout [] old new = new ≡ old
Finds layout (r ∷ rs) old new = FindsValue layout r.kind r old × Finds layout rs (words_after layout r.kind r old) new

-- all are records of accesses that read or write
abbrev pub ArePlain : List Record → Type 0
ArePlain [] = Unit {0}
ArePlain (r ∷ rs) = ((r.kind ≡ kind.Read) ⊎ (r.kind ≡ kind.Write)) × ArePlain rs

-- these records were made: they are in the log, and found the words as they stood
pub record Gains (layout : ElementLayout) (old new : SerialProgress) (added : List Record) : Type 0 where
  pub log : new.log ≡ old.log ++ flat_map spelling added
  pub count : new.count ≡ old.count + length added
  pub finds : Finds layout added old.words new.words
  pub left : new.left + length added ≡ old.left

-- the task executed the part; it ends so and leaves these locals
pub record RanPart {A : Type 0} (layout : ElementLayout) (part : State → Outcome A) (slots slots' : List ℤ) (old new : SerialProgress) (finish : Finish A) : Type 0 where
  pub added : List Record
  pub plain : ArePlain added
  pub gains : Gains layout old new added
  pub makes : Makes part slots (room_of layout.bound old) (adds slots' added) finish

-- The whole run may make no record more, where the task's log has room for one: bounded so, the part would put a record there.
pub record RunsOut {A : Type 0} (layout : ElementLayout) (part : State → Outcome A) (slots slots' : List ℤ) (old new : SerialProgress) : Type 0 where
  pub none : new.left ≡ 0
  pub below : new.count < record_limit
  pub due : layout.bound ≡ OfRun → (line : ℕ) × RanPart layout part slots slots' old new (Halted reason.LogFull line)

-- how the execution of a part ends, by what is answered
abbrev pub RunsPart : {A : Type 0} → ElementLayout → (State → Outcome A) → List ℤ → List ℤ → SerialProgress → SerialProgress → Result A Halt → Type 0
RunsPart layout part slots slots' old new (Ok v) = RanPart layout part slots slots' old new (Returned v)
RunsPart layout part slots slots' old new (Err (halt.Stops why line)) = RanPart layout part slots slots' old new (Halted why line)
RunsPart layout part slots slots' old new (Err halt.Long) = RunsOut layout part slots slots' old new
RunsPart layout part slots slots' old new (Err _) = Unit {0}

-- one record was spelled, and the words are as they were
pub record LogsRecord (due : Record) (old new : SerialProgress) : Type 0 where
  pub log : new.log ≡ old.log ++ spelling due
  pub count : new.count ≡ old.count + 1
  pub words : new.words ≡ old.words
  pub left : new.left + 1 ≡ old.left

-- one record more may be made
pub record MayMake (p : SerialProgress) : Type 0 where
  pub below : p.count < record_limit
  pub some : 0 < p.left

-- or why it may not be, where its line is this one
abbrev pub FindsRoom : SerialProgress → ℕ → Result (Unit {0}) Halt → Type 0
FindsRoom p line (Ok _) = MayMake p
FindsRoom p line (Err (halt.Stops reason.LogFull at_line)) = (at_line ≡ line) × (record_limit ≤ p.count)
FindsRoom p line (Err halt.Long) = (p.left ≡ 0) × (p.count < record_limit)
FindsRoom p line (Err _) = ⊥

-- the record was put, or why not
abbrev pub Marks : Record → SerialProgress → SerialProgress → Result (Unit {0}) Halt → Type 0
Marks due old new (Ok _) = MayMake old × LogsRecord due old new
Marks due old new (Err (halt.Stops reason.LogFull line)) = (line ≡ due.line) × (record_limit ≤ old.count) × (new ≡ old)
Marks due old new (Err halt.Long) = (old.left ≡ 0) × (old.count < record_limit) × (new ≡ old)
Marks due old new (Err halt.Memory) = Unit {0}
Marks due old new (Err _) = ⊥
