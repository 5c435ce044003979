-- What comes out of a run, and what it leaves in the folder.
use Rattle.std.specs.Prelude.{◌≡◌, ◌⊎◌, ◌↔◌, ℕ, List, ◌++◌, ◌∷◌, [], length, map, sum_by, Option, ◌≤◌, ◌+◌, ◌*◌, None, Some, IsSome}
use Rattle.log_format.specs.declared.format.TheConstants.{FORMAT}
use Rattle.log_format.specs.Format.{log_header}
use Rattle.log_format.specs.Spelling.{log_bytes}
use Rattle.sw_base.specs.declared.path.Step.{Step}
use Rattle.sw_base.specs.Environment.{Files, Content, Outline, with_put}
use Rattle.sw_base.specs.HandedLog.{HandedLog, SealsPrefix, with_sealed}
use Rattle.sw_base.specs.Names.{index_name}
use Rattle.sw_base.specs.Pieces.{records_in, kept}
use Rattle.race_model.specs.FirstBad.{rows_of}
use Rattle.race_model.specs.IndexFault.{max_rows}
use Rattle.race_model.specs.Listing.{IsListing}
use Rattle.race_model.specs.Row.{index_bytes}
use Rattle.race_model.specs.Trace.{TaskLog, Trace}
use Rattle.kernel_syntax.specs.Layout.{elements}
use Rattle.kernel_syntax.specs.Program.{Program, program_of}
use Rattle.kernel_model.specs.declared.stop.StopWhy.{StopWhy}
use Rattle.kernel_model.specs.Folder.{IsTracedFolder, paths_of}
use Rattle.kernel_model.specs.Stopping.{stop_name}
use Rattle.kernel_model.specs.Trace.{Stopped}
use Rattle.kernel_text.specs.declared.fault.KernelWhy.{KernelWhy}
use Rattle.kernel_reader.specs.declared.fault.ReadKernelFault.TheVariants as read
use Rattle.command_answer.specs.declared.status.TheConstants.{DONE, INDEX_THERE, KERNEL_REFUSED, KERNEL_STOPPED}
use Rattle.command_answer.specs.RunTexts.{run_text, stop_line}
use Rattle.command_answer.specs.Texts.{index_exists_text}
use Rattle.kernel_file.specs.Due.{KernelDue}
use Rattle.kernel_file.specs.Holding.{HoldsKernel, HoldsFault}
use Rattle.execution_model.specs.Execution.{IsExecution}
use Rattle.execution_model.specs.Stops.{StopsAt}
use Rattle.execution_model.specs.Elements.{element_address}
use Rattle.region_runner.specs.Answer.{IsLeast, whole_outline}
use Rattle.run_command.specs.declared.outcome.Outcome.{Outcome}
use Rattle.run_command.specs.declared.outcome.Outcome.TheVariants as outcome

-- the named file holds a kernel, and the folder has an index
pub record HasIndex (files : Files) (kernel dir : List ℕ) : Type 0 where
  pub program : Program
  pub holds : HoldsKernel files kernel program
  pub there : IsSome (files (index_name dir))

-- the named file holds this kernel, and the folder has no index
pub record CanRun (files : Files) (kernel dir : List ℕ) (program : Program) : Type 0 where
  pub holds : HoldsKernel files kernel program
  pub fresh : files (index_name dir) ≡ None

-- the whole log of a task in the folder, from a buffer of this size
abbrev pub told_log : List ℕ → ℕ → TaskLog → HandedLog
told_log dir size task = record { task = task.path; dir = dir; path = task.path; told = Some (whole_outline size task.records); count = length task.records }

-- The tasks of a whole run of the kernel, in the order of their paths and not too many: each has its trace, and their accesses and mutex steps
-- have one legal history that respects happens-before and ends in these words, one for each element.
pub record IsWholeRun (program : Program) (tasks : Trace) (words : List ℕ) : Type 0 where
  pub traced : IsTracedFolder program tasks
  pub listed : IsListing (paths_of tasks)
  pub few : length tasks ≤ max_rows
  pub execution : IsExecution program tasks (element_address program.arrays) words
  pub all : length words ≡ elements program.arrays

-- The run of this kernel, which is the file's, ended in a folder that had no index: the logs of so many tasks, with so many records in all,
-- and their index are there, and nothing else changed. A legal history of these logs ends in these words.
pub record EndedRun (kernel dir : List ℕ) (size : ℕ) (old new : Content) (program : Program) (count records : ℕ) (words : List ℕ) : Type 0 where
  pub can : CanRun old.held kernel dir program
  pub tasks : Trace
  pub run : IsWholeRun program tasks words
  pub count_is : count ≡ length tasks
  pub records_are : records ≡ sum_by (λ (task : TaskLog). length task.records) tasks
  pub leaves : new ≡ with_put (index_name dir) (index_bytes FORMAT (rows_of tasks)) (with_sealed (map (told_log dir size) tasks) old)

-- a task's log that lacks records: its pieces lack at most two blocks of them
pub record IsTornLog (dir : List ℕ) (size : ℕ) (task : TaskLog) (log : HandedLog) : Type 0 where
  pub outline : Outline
  pub log_is : log ≡ record { task = task.path; dir = dir; path = task.path; told = Some outline; count = length task.records }
  pub missing : List ℕ
  pub prefix : log_bytes (log_header FORMAT) task.records ≡ outline.bytes ++ missing
  pub behind : length task.records ≤ kept outline.lengths + 2 * records_in size

-- The log of a task as it is there after a stop in the task `stopped`: whole, from a buffer of this size. Where a fault is counted, that
-- of another task may lack records.
pub data IsLeftLog (rose : Type 0) (dir : List ℕ) (size : ℕ) (stopped : List Step) (task : TaskLog) (log : HandedLog) : Type 0 where
  whole : log ≡ told_log dir size task → IsLeftLog rose dir size stopped task log
  torn : rose → (task.path ≡ stopped → ⊥) → IsTornLog dir size task log → IsLeftLog rose dir size stopped task log

-- these are the logs of these tasks, in their order
pub data AreLeftLogs (rose : Type 0) (dir : List ℕ) (size : ℕ) (stopped : List Step) : Trace → List HandedLog → Type 0 where
  no_task : AreLeftLogs rose dir size stopped [] []
  next : (task : TaskLog) (tasks : Trace) (log : HandedLog) (logs : List HandedLog) → IsLeftLog rose dir size stopped task log → AreLeftLogs rose dir size stopped tasks logs
      → AreLeftLogs rose dir size stopped (task ∷ tasks) (log ∷ logs)

-- The kernel stopped so in the task of this path, which is in the least lane that stopped. The logs are those of the tasks of one execution, in the
-- order of their paths.
pub record AreStopped (rose : Type 0) (program : Program) (dir : List ℕ) (size : ℕ) (logs : List HandedLog) (path : List Step) (line : ℕ) (reason : StopWhy) : Type 0 where
  pub tasks : Trace
  pub words : List ℕ
  pub execution : IsExecution program tasks (element_address program.arrays) words
  pub listed : IsListing (paths_of tasks)
  pub logs_are : AreLeftLogs rose dir size path tasks logs
  pub stops : StopsAt program tasks path line reason
  pub least : IsLeast tasks path

-- This kernel, which is the file's, stopped so in a folder that had no index: its logs are there, and nothing else changed.
pub record StoppedRun (rose : Type 0) (kernel dir : List ℕ) (size : ℕ) (old new : Content) (program : Program) (path : List Step) (line : ℕ) (reason : StopWhy) : Type 0 where
  pub can : CanRun old.held kernel dir program
  pub logs : List HandedLog
  pub stopped : AreStopped rose program dir size logs path line reason
  pub leaves : new ≡ with_sealed logs old

-- the logs of a run that ended, or of one that stopped
pub data AreRunLogs (rose : Type 0) (program : Program) (dir : List ℕ) (size : ℕ) (logs : List HandedLog) : Type 0 where
  ended : (tasks : Trace) (words : List ℕ) → IsWholeRun program tasks words → logs ≡ map (told_log dir size) tasks → AreRunLogs rose program dir size logs
  stopped : (path : List Step) (line : ℕ) (reason : StopWhy) → AreStopped rose program dir size logs path line reason → AreRunLogs rose program dir size logs

-- What is left of a run that could not give its answer: the folder as it was; or, of a kernel that the file holds and a folder that had no
-- index, the first of its logs and no index; or the logs of a whole run, and a prefix of its index.
pub data LeavesPart (rose : Type 0) (kernel dir : List ℕ) (size : ℕ) (old new : Content) : Type 0 where
  nothing : new ≡ old → LeavesPart rose kernel dir size old new
  logs : (program : Program) → CanRun old.held kernel dir program → (logs : List HandedLog) → AreRunLogs rose program dir size logs → SealsPrefix logs old new
      → new.held (index_name dir) ≡ None → LeavesPart rose kernel dir size old new
  index : (program : Program) → CanRun old.held kernel dir program → (tasks : Trace) (words : List ℕ) → IsWholeRun program tasks words → (prefix rest : List ℕ)
      → index_bytes FORMAT (rows_of tasks) ≡ prefix ++ rest → new ≡ with_put (index_name dir) prefix (with_sealed (map (told_log dir size) tasks) old)
      → LeavesPart rose kernel dir size old new

-- What the folder tells of what came out: there was no file, or its text has a fault, or the folder had an index; or the kernel stopped, or
-- its run ended, in a folder that had no index; or no answer came.
abbrev pub CameOut : Type 0 → List ℕ → List ℕ → ℕ → Content → Content → Outcome → Type 0
CameOut rose kernel dir size old new outcome.NoKernel = (old.held kernel ≡ None) × (new ≡ old)
CameOut rose kernel dir size old new (outcome.Refused line why) = HoldsFault old.held kernel (read.Refused line why) × (new ≡ old)
CameOut rose kernel dir size old new outcome.IndexThere = HasIndex old.held kernel dir × (new ≡ old)
CameOut rose kernel dir size old new (outcome.Stopped path line why) =
    (program : Program) × StoppedRun rose kernel dir size old new program path line why
CameOut rose kernel dir size old new (outcome.Ran k tasks records words) = EndedRun kernel dir size old new (program_of k) tasks records words.items
CameOut rose kernel dir size old new outcome.ReadFault = new ≡ old
CameOut rose kernel dir size old new outcome.WriteFault = LeavesPart rose kernel dir size old new
CameOut rose kernel dir size old new outcome.NoMemory = LeavesPart rose kernel dir size old new

-- what came out of a run that began, where the folder tells what it holds
abbrev pub EndsSo : Type 0 → List ℕ → List ℕ → ℕ → Program → Option Content → Option Content → Outcome → Type 0
EndsSo rose kernel dir size program old new outcome = (c d : Content) → CanRun c.held kernel dir program → old ≡ Some c → new ≡ Some d → CameOut rose kernel dir size c d outcome

-- What `run` answers for a kernel: that the folder has an index; or, of a folder that had none, how the kernel stopped, or the counts of its run that
-- ended and the sums of its words.
pub data RunAnswer (rose : Type 0) (kernel dir : List ℕ) (size : ℕ) (old new : Content) (program : Program) (status : ℕ) (text : List ℕ) : Type 0 where
  index_there : IsSome (old.held (index_name dir)) → new ≡ old → status ≡ INDEX_THERE → text ≡ index_exists_text → RunAnswer rose kernel dir size old new program status text
  stopped_so : (path : List Step) (line : ℕ) (reason : StopWhy) → StoppedRun rose kernel dir size old new program path line reason → status ≡ KERNEL_STOPPED
      → text ≡ stop_line path line (stop_name reason) → RunAnswer rose kernel dir size old new program status text
  ended_so : (count records : ℕ) (words : List ℕ) → EndedRun kernel dir size old new program count records words → status ≡ DONE
      → text ≡ run_text count records program.arrays words → RunAnswer rose kernel dir size old new program status text

-- what is due of `run`; where the kernel is refused, nothing changed
pub record RunDue (rose : Type 0) (kernel dir : List ℕ) (size : ℕ) (old new : Content) (status : ℕ) (text : List ℕ) : Type 0 where
  pub due : KernelDue (RunAnswer rose kernel dir size old new) old.held kernel status text
  pub same : status ≡ KERNEL_REFUSED → new ≡ old

-- the named file holds no kernel: there is no such file, or its text has a fault
pub data HoldsNoKernel (files : Files) (name : List ℕ) : Type 0 where
  no_file : files name ≡ None → HoldsNoKernel files name
  no_kernel : (line : ℕ) (why : KernelWhy) → HoldsFault files name (read.Refused line why) → HoldsNoKernel files name

-- a run can begin
abbrev pub MayStart : Files → List ℕ → List ℕ → Type 0
MayStart files kernel dir = (program : Program) × CanRun files kernel dir program

-- The status tells what the files hold: whether the kernel is refused, whether there is an index, or whether the kernel was run.
pub record TellsFiles (files : Files) (kernel dir : List ℕ) (status : ℕ) : Type 0 where
  pub refused : (status ≡ KERNEL_REFUSED) ↔ HoldsNoKernel files kernel
  pub indexed : (status ≡ INDEX_THERE) ↔ HasIndex files kernel dir
  pub began : ((status ≡ DONE) ⊎ (status ≡ KERNEL_STOPPED)) ↔ MayStart files kernel dir
