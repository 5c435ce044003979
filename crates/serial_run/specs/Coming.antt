-- A task that is resumed again and again, while others go on between.
use Rattle.std.specs.Prelude.{◌≡◌, ℕ, List, [], ◌++◌, ℤ}
use Rattle.log_format.specs.declared.record.Record.{Record}
use Rattle.log_format.specs.declared.record.Kind.TheVariants as kind
use Rattle.kernel_syntax.specs.Program.{Program}
use Rattle.kernel_model.specs.Effect.{Halted}
use Rattle.kernel_model.specs.Folder.{own_trace, IsTraced, IsTracedTo}
use Rattle.kernel_model.specs.State.{State, Fork, after, put, event}
use Rattle.kernel_model.specs.declared.stop.StopWhy.{StopWhy}
use Rattle.kernel_model.specs.Trace.{Start, Stopped, run, site_of}
use Rattle.serial_run.specs.Going.{SerialProgress, RanPart}
use Rattle.serial_run.specs.Stepping.{Stand, Advances, Finishes, stand_left}
use Rattle.serial_run.specs.Placing.{OfLog, ElementLayout}

-- the task has made nothing yet, and all that it executes is left
pub record IsAtStart (program : Program) (start : Start) (x : Stand) : Type 0 where
  pub slots : x.slots ≡ start.slots
  pub none : x.progress.count ≡ 0
  pub whole : (s : State) → stand_left x s ≡ after (run (site_of program start) start.team.body s) (put (event kind.End start.team.end 0 0))

-- From where the task stood first it came here: it made these records and forked these regions, and while it stood still others may
-- have changed the words.
pub data Comes (layout : ElementLayout) (first : Stand) : Stand → List Record → List Fork → Type 0 where
  begins : Comes layout first first [] []
  waits : (x : Stand) (records : List Record) (forks : List Fork) (words : List ℕ) (left : ℕ) → Comes layout first x records forks
      → Comes layout first (record x { progress = record x.progress { words = words; left = left } }) records forks
  goes : (x y : Stand) (records : List Record) (forks : List Fork) (mark : List Record) (more : List Fork) → Comes layout first x records forks → (a : Advances layout x y mark more)
      → Comes layout first y (records ++ a.makes.added) (forks ++ more)

-- a task that ended has made its trace, and forked its regions
abbrev pub HaveTheirTrace : Type 0
HaveTheirTrace =
    (layout : ElementLayout) (program : Program) (start : Start) (first x y : Stand) (records : List Record) (forks : List Fork) → layout.bound ≡ OfLog → IsAtStart program start first → Comes layout first x records forks
    → (f : Finishes layout x y) → IsTraced program start (records ++ f.makes.added) × ((own_trace program start (records ++ f.makes.added)).forks ≡ forks)

-- so a task that stopped, whose trace ends in that stop
abbrev pub StopAsTold : Type 0
StopAsTold =
    (layout : ElementLayout) (program : Program) (start : Start) (first x : Stand) (records : List Record) (forks : List Fork) (slots : List ℤ) (last : SerialProgress) (why : StopWhy) (line : ℕ)
    → layout.bound ≡ OfLog → IsAtStart program start first → Comes layout first x records forks
    → (m : RanPart layout (stand_left x) x.slots slots x.progress last (Halted why line))
    → IsTracedTo program start (records ++ m.added) (Stopped why line) × ((own_trace program start (records ++ m.added)).forks ≡ forks)
