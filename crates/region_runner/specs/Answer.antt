-- What a run of a kernel answers.
use Rattle.std.specs.Prelude.{◌≡◌, ◌⊎◌, ℕ, ◌<◌, ◌≤◌, List, [], ◌∷◌, ◌++◌, length, map, All, Option, Some, is_some, Result, IfOk, IfErr}
use Rattle.std.specs.Option.{option_map}
use Rattle.log_format.specs.declared.format.TheConstants.{FORMAT}
use Rattle.log_format.specs.declared.record.Record.{Record}
use Rattle.log_format.specs.Format.{log_header}
use Rattle.log_format.specs.Spelling.{log_bytes}
use Rattle.sw_base.specs.declared.environment.Log.{Ghosts}
use Rattle.sw_base.specs.declared.closed_log.ClosedLog.{ClosedLog}
use Rattle.sw_base.specs.declared.path.Step.{Step}
use Rattle.sw_base.specs.declared.trouble.Trouble.TheVariants.{Memory}
use Rattle.sw_base.specs.Environment.{Outline, Text, WhereTold, empty_text}
use Rattle.sw_base.specs.HandedLog.{HandedLog, handed_log}
use Rattle.sw_base.specs.Pieces.{cut}
use Rattle.race_model.specs.IndexFault.{max_rows}
use Rattle.race_model.specs.KeepsRules.{KeepsRules}
use Rattle.race_model.specs.Listing.{IsListing, lane_of}
use Rattle.race_model.specs.Trace.{TaskLog, Trace, logs_of}
use Rattle.kernel_syntax.specs.Layout.{elements}
use Rattle.kernel_syntax.specs.Program.{Program}
use Rattle.kernel_model.specs.Folder.{IsTracedFolder, paths_of}
use Rattle.kernel_model.specs.Trace.{Ending}
use Rattle.execution_model.specs.Execution.{IsExecution}
use Rattle.lane_runner.specs.declared.stop.Stop.{Stop}
use Rattle.lane_runner.specs.declared.stop.Stop.TheVariants as stop
use Rattle.lane_runner.specs.Handed.{AreEntriesOf, HandedEntry, TellStop, entries_of}
use Rattle.lane_runner.specs.Stopping.{GoesFurther, IsNoTrouble, ending_for}
use Rattle.execution_model.specs.Stops.{EndsTask, LanesEnd, LastIsRegionAt}
use Rattle.execution_model.specs.Elements.{element_address}
use Rattle.region_runner.specs.declared.run.Finished.{Finished}
use Rattle.region_runner.specs.declared.run.Stopped.{Stopped}

-- a buffer holds at least one record, and at most 4,194,304 bytes
pub record IsBufferSize (size : ℕ) : Type 0 where
  pub least : 24 ≤ size
  pub most : size ≤ 4194304

-- the bytes of a whole log and the lengths of its pieces, from a buffer of this size
abbrev pub whole_outline : ℕ → List Record → Outline
whole_outline size records = record { bytes = log_bytes (log_header FORMAT) records; lengths = cut (length records) size }

-- the whole log of a task, in the folder `dir`; it tells its content where the root's log, `root`, does
abbrev pub whole_handed : List ℕ → ℕ → Option Text → TaskLog → HandedLog
whole_handed dir size root task = record {
  task = task.path;
  dir = dir;
  path = task.path;
  told = option_map (λ _. whole_outline size task.records) root;
  count = length task.records;
}

-- The tasks of a run that ended are those of the kernel, each with its trace; their logs keep the rules of a folder; and their accesses
-- and mutex steps have one legal history that respects happens-before and ends in these words, one for each element.
pub record IsEndedRun (program : Program) (tasks : Trace) (words : List ℕ) : Type 0 where
  pub traced : IsTracedFolder program tasks
  pub rules : KeepsRules FORMAT tasks
  pub execution : IsExecution program tasks (element_address program.arrays) words
  pub all : length words ≡ elements program.arrays

-- the logs are those of a whole run, in the order of their paths
pub record HasRun (program : Program) (dir : List ℕ) (size : ℕ) (root : Option Text) (logs : List HandedLog) (words : List ℕ) : Type 0 where
  pub tasks : Trace
  pub run : IsEndedRun program tasks words
  pub logs_are : logs ≡ map (whole_handed dir size root) tasks
  pub few : length tasks ≤ max_rows

-- none of these logs counts a fault
abbrev pub AreFaultless : {L : Type 0} → (L → ℕ) → List (ClosedLog L) → Type 0
AreFaultless faults_of entries = All (λ closed. faults_of closed.log ≡ 0) entries

-- At each step of the path each smaller lane of the region went further, so that the task of this path is in the least lane that
-- stopped.
abbrev pub IsLeast : Trace → List Step → Type 0
IsLeast tasks path = (above : List Step) (step : Step) (below : List Step) → path ≡ above ++ step ∷ below → (lane : ℕ) → lane < step.lane
    → GoesFurther (logs_of tasks (lane_of above step.region lane step.span)) (logs_of tasks (above ++ step ∷ []))

-- The run stopped so in the task of this path: a stop that traces tell is how its trace ends; where too many tasks were below it,
-- its last record is that of a region at this line, and its regions are joined; and but for trouble it is in the least lane that stopped.
pub record StopsIn (program : Program) (tasks : Trace) (path : List Step) (why : Stop) : Type 0 where
  pub traced : (end : Ending) → ending_for why ≡ Some end → EndsTask program tasks path end
  pub crowded : (line : ℕ) → why ≡ stop.Tasks line → LastIsRegionAt line (logs_of tasks path)
  pub joined : (line : ℕ) → why ≡ stop.Tasks line → LanesEnd tasks path
  pub least : IsNoTrouble why → IsLeast tasks path

-- The logs of a run that stopped so in the task of this path. They are those of an execution of the kernel, in the order of their paths:
-- each with all its records, or a prefix of them, where it may lack some; one may be missing where no memory was found. The words
-- are the last ones of its history, one for each element; there are none where no memory was found for them.
pub record HasStoppedRun (program : Program) (dir : List ℕ) (size : ℕ) (root : Option Text) (logs : List HandedEntry) (path : List Step) (why : Stop) (words : List ℕ) : Type 0 where
  pub tasks : Trace
  pub execution : IsExecution program tasks (element_address program.arrays) words
  pub all : (length words ≡ elements program.arrays) ⊎ ((why ≡ stop.Trouble Memory) × (words ≡ []))
  pub listed : IsListing (paths_of tasks)
  pub logs_are : AreEntriesOf (record { dir = dir; size = size; tells = is_some root }) (Some (path, why)) tasks logs
  pub stops : StopsIn program tasks path why
  pub tell : TellStop (Some (path, why)) logs

-- the log of the root before a run: nothing was appended to it, and no call on it failed
pub record IsRootLog {T : Type 0} (seen : Ghosts T) (root : T) : Type 0 where
  pub own : seen.path root ≡ []
  pub empty : WhereTold (seen.text root) (λ text. text ≡ empty_text)
  pub no_faults : seen.faults root ≡ 0

-- What the run of a kernel answers, whose root had this log. If it ended, the logs are those of the kernel's tasks, each with its whole trace
-- under what it read, cut into pieces that fill the buffer, and all that they did has one legal history, which ends in the words; and no call
-- on a log failed. If it stopped, the logs are those of the beginning of such a run, and tell why it stopped.
pub record AnswersRun {T : Type 0} (seen : Ghosts T) (program : Program) (root : T) (size : ℕ) (answer : Result (Finished T) (Stopped T)) : Type 0 where
  pub finished : IfOk answer (λ f. HasRun program (seen.dir root) size (seen.text root) (map (handed_log seen.dir seen.path seen.text) f.logs.items) f.words.items)
  pub no_fault : IfOk answer (λ f. AreFaultless seen.faults f.logs.items)
  pub stopped : IfErr answer (λ s. HasStoppedRun program (seen.dir root) size (seen.text root) (entries_of seen s.logs.items) s.path s.why s.words.items)
