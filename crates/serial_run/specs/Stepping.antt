-- How a task goes on, one frame after another, and where it stands still.
use Rattle.std.specs.Prelude.{◌≡◌, ℕ, ◌≤◌, List, [], ◌∷◌, ◌++◌, length, ℤ, Option, Some, None, Result, Ok, Err}
use Rattle.log_format.specs.declared.record.Record.{Record}
use Rattle.log_format.specs.declared.record.Kind.TheVariants as kind
use Rattle.kernel_syntax.specs.Program.{team_of}
use Rattle.kernel_model.specs.declared.stop.StopWhy.TheVariants as reason
use Rattle.kernel_model.specs.State.{State, Fork, Outcome, Gives, after, put, event, reads_of, chunks_of}
use Rattle.kernel_model.specs.Effect.{Halted, state_with}
use Rattle.kernel_model.specs.Value.{Site}
use Rattle.serial_run.specs.declared.frame.Frame.{Frame}
use Rattle.serial_run.specs.declared.frame.Pause.{Pause}
use Rattle.serial_run.specs.declared.frame.Pause.TheVariants as pause
use Rattle.serial_run.specs.declared.halt.Halt.{Halt}
use Rattle.serial_run.specs.declared.halt.Halt.TheVariants as halt
use Rattle.serial_run.specs.declared.lane.SerialLane.{SerialLane}
use Rattle.serial_run.specs.declared.memory.SerialMemory.{SerialMemory}
use Rattle.serial_run.specs.Going.{SerialProgress, serial_progress, room_of, ArePlain, Gains, RanPart, RunsOut}
use Rattle.serial_run.specs.Resting.{frames_rest}
use Rattle.serial_run.specs.Placing.{ElementLayout}

-- where a task stands: where it runs, the line of its End, its locals, what is left of it, and what it has made
pub record Stand : Type 0 where
  pub at : Site
  pub end : ℕ
  pub slots : List ℤ
  pub rest : List Frame
  pub progress : SerialProgress

abbrev pub stand : SerialLane → SerialMemory → Stand
stand l memory = record { at = l.place; end = l.end; slots = l.locals.slots.items; rest = l.rest.items; progress = serial_progress l.track memory }

-- The first part comes to the second once it put these records and forked these regions, whatever was put and forked before it and is
-- read and drawn after it, where it reads and draws what its own records tell. Here and there it has this much room.
abbrev pub Leads : (State → Outcome (Unit {0})) → List ℤ → ℕ → (State → Outcome (Unit {0})) → List ℤ → ℕ → List Record → List Fork → Type 0
Leads part slots room part' slots' room' added forks =
    (records : List Record) (before : List Fork) (reads : List ℤ) (chunks : List ℕ) →
    part (state_with slots records before room (reads_of added ++ reads) (chunks_of added ++ chunks))
    ≡ part' (state_with slots' (records ++ added) (before ++ forks) room' reads chunks)

-- The records that were made: accesses, and last this mark, if any.
pub record Adds (layout : ElementLayout) (old new : SerialProgress) (mark : List Record) : Type 0 where
  pub plain : List Record
  pub plain_is : ArePlain plain
  pub added : List Record
  pub added_is : added ≡ plain ++ mark
  pub within : length added ≤ room_of layout.bound old
  pub gains : Gains layout old new added

-- The task executed the part but for the frames pushed.
pub record StepsInto (layout : ElementLayout) (at : Site) (part : State → Outcome (Unit {0})) (slots slots' : List ℤ) (old new : SerialProgress) (pushed : List Frame) (mark : List Record) (forks : List Fork) : Type 0 where
  pub makes : Adds layout old new mark
  pub leads : (then' : State → Outcome (Unit {0})) → Leads (λ s. after (part s) then') slots (room_of layout.bound old) (frames_rest at pushed then') slots' (room_of layout.bound new) makes.added forks

-- so, with these frames on top of what is left
pub record Stepped (layout : ElementLayout) (part : State → Outcome (Unit {0})) (old new : Stand) (mark : List Record) (forks : List Fork) : Type 0 where
  pub at : new.at ≡ old.at
  pub end : new.end ≡ old.end
  pub pushed : List Frame
  pub rest : new.rest ≡ old.rest ++ pushed
  pub steps : StepsInto layout old.at part old.slots new.slots old.progress new.progress pushed mark forks

-- what is put where the task stands still: the record of a barrier or of a fork
abbrev pub TakesTo : ElementLayout → (State → Outcome (Unit {0})) → Stand → Stand → Option Pause → Type 0
TakesTo layout part old new None = Stepped layout part old new [] []
TakesTo layout part old new (Some pause.Barrier) = (line : ℕ) × Stepped layout part old new (event kind.Barrier line 0 0 ∷ []) []
TakesTo layout part old new (Some (pause.Fork team)) =
    Stepped layout part old new (event kind.Region team.now.line 0 team.now.span ∷ []) (record { team = team_of team.now; slots = new.slots } ∷ [])
TakesTo layout part old new (Some pause.Ended) = ⊥

-- the part ended in this stop
abbrev pub HaltsSo : ElementLayout → (State → Outcome (Unit {0})) → Stand → Stand → Halt → Type 0
HaltsSo layout part old new (halt.Stops why line) = RanPart layout part old.slots new.slots old.progress new.progress (Halted why line)
HaltsSo layout part old new halt.Long = RunsOut layout part old.slots new.slots old.progress new.progress
HaltsSo layout part old new _ = Unit {0}

-- how a task goes on with a part, by what is answered
abbrev pub TakesPart : ElementLayout → (State → Outcome (Unit {0})) → Stand → Stand → Result (Option Pause) Halt → Type 0
TakesPart layout part old new (Ok to) = TakesTo layout part old new to
TakesPart layout part old new (Err why) = HaltsSo layout part old new why

-- all that is left of a task, its End included
abbrev pub stand_left : Stand → State → Outcome (Unit {0})
stand_left x = frames_rest x.at x.rest (put (event kind.End x.end 0 0))

-- the task went on, and this is left
pub record Advances (layout : ElementLayout) (old new : Stand) (mark : List Record) (forks : List Fork) : Type 0 where
  pub at : new.at ≡ old.at
  pub end : new.end ≡ old.end
  pub makes : Adds layout old.progress new.progress mark
  pub leads : Leads (stand_left old) old.slots (room_of layout.bound old.progress) (stand_left new) new.slots (room_of layout.bound new.progress) makes.added forks

-- the task ended
pub record Finishes (layout : ElementLayout) (old new : Stand) : Type 0 where
  pub at : new.at ≡ old.at
  pub end : new.end ≡ old.end
  pub makes : Adds layout old.progress new.progress (event kind.End old.end 0 0 ∷ [])
  pub leads : Leads (stand_left old) old.slots (room_of layout.bound old.progress) (λ s. Gives tt s) new.slots (room_of layout.bound new.progress) makes.added []

-- where a task stands still
abbrev pub PausesAt : ElementLayout → Stand → Stand → Pause → Type 0
PausesAt layout old new pause.Barrier = (line : ℕ) × Advances layout old new (event kind.Barrier line 0 0 ∷ []) []
PausesAt layout old new (pause.Fork team) =
    Advances layout old new (event kind.Region team.now.line 0 team.now.span ∷ []) (record { team = team_of team.now; slots = new.slots } ∷ [])
PausesAt layout old new pause.Ended = Finishes layout old new

-- how a task goes on, by what is answered: with one frame, and until it stands still
abbrev pub AdvancesTo : ElementLayout → Stand → Stand → Option Pause → Type 0
AdvancesTo layout old new None = Advances layout old new [] []
AdvancesTo layout old new (Some to) = PausesAt layout old new to

abbrev pub Pauses : ElementLayout → Stand → Stand → Result (Option Pause) Halt → Type 0
Pauses layout old new (Ok to) = AdvancesTo layout old new to
Pauses layout old new (Err why) = HaltsSo layout (stand_left old) old new why

abbrev pub Resumes : ElementLayout → Stand → Stand → Result Pause Halt → Type 0
Resumes layout old new (Ok to) = PausesAt layout old new to
Resumes layout old new (Err why) = HaltsSo layout (stand_left old) old new why
