-- What a part of a task does under its own reads and draws, from any state with these locals and this much room.
use Rattle.std.specs.Prelude.{◌≡◌, ℕ, ◌-◌, ◌≤◌, List, [], ◌++◌, length, ℤ}
use Rattle.log_format.specs.declared.record.Record.{Record}
use Rattle.kernel_syntax.specs.Tree.{Term, Code}
use Rattle.kernel_model.specs.State.{State, Fork, Outcome, Gives, Stops, reads_of, chunks_of}
use Rattle.kernel_model.specs.declared.stop.StopWhy.{StopWhy}
use Rattle.kernel_model.specs.Value.{Site, value}
use Rattle.kernel_model.specs.Trace.{run}

-- the locals that a part leaves, the records that it adds and the regions that it forks
pub record Effect : Type 0 where
  pub slots : List ℤ
  pub added : List Record
  pub forks : List Fork

-- how a part ends: with a value, or with a stop at a line
pub data Finish (A : Type 0) : Type 0 where
  Returned : (result : A) → Finish A
  Halted : (why : StopWhy) → (line : ℕ) → Finish A

abbrev pub finished : {A : Type 0} → Finish A → State → Outcome A
finished (Returned a) s = Gives a s
finished (Halted why line) s = Stops why line s

abbrev pub state_with : List ℤ → List Record → List Fork → ℕ → List ℤ → List ℕ → State
state_with slots records forks room reads chunks =
    record { slots = slots; records = records; forks = forks; room = room; reads = reads; chunks = chunks }

-- The part has this effect and ends so, whatever was put and forked before it and is read and drawn after it, where it reads
-- and draws what its own records tell.
pub record Makes {A : Type 0} (part : State → Outcome A) (slots : List ℤ) (room : ℕ) (effect : Effect) (finish : Finish A) : Type 0 where
  pub within : length effect.added ≤ room
  pub makes : (records : List Record) (forks : List Fork) (reads : List ℤ) (chunks : List ℕ) →
      part (state_with slots records forks room (reads_of effect.added ++ reads) (chunks_of effect.added ++ chunks))
      ≡ finished finish (state_with effect.slots (records ++ effect.added) (forks ++ effect.forks) (room - length effect.added) reads chunks)

-- one effect after another
abbrev pub then_effect : Effect → Effect → Effect
then_effect one more = record { slots = more.slots; added = one.added ++ more.added; forks = one.forks ++ more.forks }

-- records alone are added
abbrev pub adds : List ℤ → List Record → Effect
adds slots added = record { slots = slots; added = added; forks = [] }

-- a term's value with the records that it adds, and a list of statements with its effect
abbrev pub MakesValue : Site → Term → List ℤ → ℕ → List Record → Finish ℤ → Type 0
MakesValue at e slots room added finish = Makes (value at e) slots room (adds slots added) finish

abbrev pub MakesRun : Site → Code → List ℤ → ℕ → Effect → Finish (Unit {0}) → Type 0
MakesRun at code slots room effect finish = Makes (run at code) slots room effect finish
