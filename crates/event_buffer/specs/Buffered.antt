-- What is seen of a buffer: its log, the bytes that were given to its writer, and those that wait in its block.
use Rattle.std.specs.Prelude.{◌≡◌, ℕ, ◌+◌, ◌<◌, ◌≤◌, List, [], length, Option, Some, None, is_some}
use Rattle.log_format.specs.Limit.{record_limit}
use Rattle.sw_base.specs.declared.path.Step.{Step}
use Rattle.sw_base.specs.declared.trouble.Trouble.{Trouble}
use Rattle.sw_base.specs.declared.trouble.Trouble.TheVariants.{Failed, Memory}
use Rattle.sw_base.specs.Environment.{Text, TearsPiece}
use Rattle.event_block.specs.Contents.{Contents}
use Rattle.flush_writer.specs.Held.{Held, settled_text}

-- the log's folder, path, text and count of faults; how many bytes a block may hold, those of the full block that was sent to the
-- log and isn't a piece of it yet, and those that wait in the other; how many records were put; and why a call on the log was
-- refused, where the lane knows of it
pub record Buffered : Type 0 where
  pub dir : List ℕ
  pub path : List Step
  pub text : Option Text
  pub faults : ℕ
  pub size : ℕ
  pub sent : List ℕ
  pub waiting : List ℕ
  pub count : ℕ
  pub refused : Option Trouble

-- the bytes of one more record fit
abbrev pub FitsRecord : Buffered → Type 0
FitsRecord b = length b.waiting + 24 ≤ b.size

-- one more record may be put
pub record MayPut (b : Buffered) : Type 0 where
  pub unrefused : b.refused ≡ None
  pub below : b.count < record_limit
  pub room : FitsRecord b

-- what was sent is a piece of the log now
abbrev pub caught_up : Buffered → Buffered
caught_up b = record b { text = settled_text b.sent b.text; sent = [] }

-- and what waited is sent
abbrev pub flushed : Buffered → Buffered
flushed b = record (caught_up b) { sent = b.waiting; waiting = [] }

-- the log refused what was sent, and may have a prefix of it, or has nothing of it where no memory was found
pub record IsTornBy (trouble : Trouble) (old new : Buffered) : Type 0 where
  pub is : new ≡ record old { text = new.text; faults = new.faults; refused = Some trouble }
  pub tears : TearsPiece old.text new.text old.sent
  pub memory : trouble ≡ Memory → new ≡ record old { refused = Some trouble }

-- a call on the log was refused that leaves its text
abbrev pub IsRefusedBy : Trouble → Buffered → Buffered → Type 0
IsRefusedBy trouble old new = new ≡ record old { faults = new.faults; refused = Some trouble }

-- the same buffer, whatever its log took
pub record IsStill (old new : Buffered) : Type 0 where
  pub dir : new.dir ≡ old.dir
  pub path : new.path ≡ old.path
  pub size : new.size ≡ old.size
  pub count : new.count ≡ old.count
  pub tells : is_some new.text ≡ is_some old.text
  pub later : old.faults ≤ new.faults

-- a refusal by the environment comes only where the log counts a fault
abbrev pub CountsFault : Trouble → ℕ → Type 0
CountsFault trouble faults = trouble ≡ Failed → 0 < faults

-- a log behind its writer and the bytes of a block, after so many records
abbrev pub buffered : Held → List ℕ → ℕ → Buffered
buffered h waiting count = record {
  dir = h.dir;
  path = h.path;
  text = h.text;
  faults = h.faults;
  size = h.size;
  sent = h.pending;
  waiting = waiting;
  count = count;
  refused = h.refused;
}

-- the bytes of a block that is here
abbrev pub bytes_in : Option Contents → List ℕ
bytes_in (Some block) = block.bytes
bytes_in None = []
