-- What the logs of a serial run are to its kernel.
use Rattle.std.specs.Prelude.{◌≡◌, ◌<◌, ◌≤◌, ℕ, List, length, map, slice_index, sum_by}
use Rattle.log_format.specs.declared.format.TheConstants.{FORMAT}
use Rattle.log_format.specs.Format.{log_header}
use Rattle.log_format.specs.Spelling.{log_bytes}
use Rattle.race_model.specs.IndexFault.{max_rows}
use Rattle.race_model.specs.Trace.{TaskLog, Trace}
use Rattle.kernel_syntax.specs.Layout.{elements}
use Rattle.kernel_syntax.specs.Program.{Program}
use Rattle.history_model.specs.Work.{Work}
use Rattle.history_model.specs.Joined.{IsJoined}
use Rattle.history_model.specs.Sound.{WordLayout, IsSound, HasAddresses, AreFitted}
use Rattle.execution_model.specs.Runs.{logged_tasks}
use Rattle.execution_laws.specs.Nesting.{NestsWithin}
use Rattle.serial_model.specs.Serial.{IsSerial, Leaves, RunsSerially}
use Rattle.serial_steps.specs.Lanes.{Still, GoesSerially}
use Rattle.serial_team.specs.Members.{WholeLog}

-- the whole log of a task: the header, and its records as they are spelled
abbrev pub spelled : TaskLog → WholeLog
spelled task = record { path = task.path; bytes = log_bytes (log_header FORMAT) task.records; count = length task.records }

-- The tasks are those of a tree of work that runs the kernel and takes its steps in serial order, and these words, one for each element,
-- are those that it leaves. No region lies deeper than four.
pub record IsSerialRun (program : Program) (layout : WordLayout) (tasks : Trace) (words : List ℕ) : Type 0 where
  pub root : Work
  pub runs : RunsSerially program layout 4 root words words
  pub tasks_are : tasks ≡ logged_tasks 4 root
  pub all : length words ≡ elements program.arrays

-- The logs are those of such tasks, in the order of an index. They have at most so many records in all, and are no more than an index has rows.
pub record LogsSerialRun (program : Program) (layout : WordLayout) (limit : ℕ) (logs : List WholeLog) (words : List ℕ) : Type 0 where
  pub tasks : Trace
  pub logs_are : logs ≡ map spelled tasks
  pub within : sum_by (λ (log : WholeLog). log.count) logs ≤ limit
  pub few : length tasks ≤ max_rows
  pub run : IsSerialRun program layout tasks words

-- What a serial run that stopped did: the work of a fork-join run, in which no region lies deeper than four, with its steps in serial order. These
-- words, one for each element, are those that it leaves.
pub record IsStoppedWork (program : Program) (layout : WordLayout) (root : Work) (words : List ℕ) : Type 0 where
  pub sound : IsSound layout root
  pub joined : IsJoined root
  pub nests : NestsWithin 4 root
  pub serial : IsSerial layout.word root
  pub leaves : Leaves layout.word root words
  pub addresses : HasAddresses layout words
  pub fitted : AreFitted layout words words
  pub all : length words ≡ elements program.arrays

-- The logs spell the tasks that the serial run makes, which comes to its end, lane after lane, and the words are the memory that it leaves.
pub record EndsSerially (program : Program) (layout : WordLayout) (room : ℕ) (logs : List WholeLog) (words : List ℕ) : Type 0 where
  pub tasks : Trace
  pub memory : ℕ → ℕ
  pub goes : GoesSerially program room tasks memory Still.at_end
  pub logs_are : logs ≡ map spelled tasks
  pub words_are : (w : ℕ) → w < length words → slice_index words w ≡ memory (layout.address w)

-- The serial run of the kernel comes to stand still so, lane after lane, with room for so many records: these are its tasks, and the memory that it leaves.
pub record ComesSerially (program : Program) (room : ℕ) (end : Still) : Type 0 where
  pub tasks : Trace
  pub memory : ℕ → ℕ
  pub goes : GoesSerially program room tasks memory end
