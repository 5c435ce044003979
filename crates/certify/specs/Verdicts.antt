-- What a verdict tells of a kernel.
use Rattle.std.specs.Prelude.{◌≡◌, ◌≢◌, ℕ, ◌+◌, ◌<◌, ◌≤◌, List, [], map, length, sum_by, take, slice_get, slice_index, Some}
use Rattle.sw_base.specs.declared.path.Step.{Step}
use Rattle.race_model.specs.FirstBad.{segments_in}
use Rattle.race_model.specs.IndexFault.{max_rows}
use Rattle.race_model.specs.Listing.{IsListing}
use Rattle.race_model.specs.LogFault.{max_segments}
use Rattle.race_model.specs.Race.{IsRacePair, Lists}
use Rattle.race_model.specs.Segment.{segment_count}
use Rattle.race_model.specs.Trace.{TaskLog, Trace, logs_of}
use Rattle.kernel_syntax.specs.Layout.{elements}
use Rattle.kernel_syntax.specs.Program.{Program}
use Rattle.kernel_model.specs.Folder.{IsTracedFolder, paths_of}
use Rattle.kernel_model.specs.Lawful.{IsLawful}
use Rattle.certainty_model.specs.Certain.{AreSame, IsCertain, IsFixed, IsRun}
use Rattle.certify.specs.Constructs.{construct_lines}
use Rattle.serial_model.specs.Order.{HasSerialHistory}
use Rattle.serial_laws.specs.SerialRuns.{ComesSerially, EndsSerially, LogsSerialRun, spelled}
use Rattle.serial_steps.specs.Lanes.{Still, GoesSerially}
use Rattle.serial_team.specs.Members.{WholeLog}
use Rattle.execution_model.specs.Elements.{element_address, layout_of}
use Rattle.certify.specs.declared.verdict.Verdict.{Verdict}
use Rattle.certify.specs.declared.verdict.Verdict.TheVariants as verdict
use Rattle.certify.specs.declared.certifying.TheConstants.{MOST_RECORDS}

-- how many records the logs of tasks have
abbrev pub record_total : Trace → ℕ
record_total tasks = sum_by (λ (task : TaskLog). length task.records) tasks

-- The serial run of the kernel, which is fixed: these tasks are those of a whole run, in the order of an index, and a legal history of them in
-- serial order ends with these words, one for each element. They are no more than an index has rows; and lane after lane, with room for so many
-- records, the run comes to its end with logs that are the same byte for byte, and these words are what it leaves.
pub record RunsTo (program : Program) (tasks : Trace) (words : List ℕ) : Type 0 where
  pub fixed : IsFixed program.main.body
  pub traced : IsTracedFolder program tasks
  pub listed : IsListing (paths_of tasks)
  pub history : HasSerialHistory (logs_of tasks) (element_address program.arrays) words
  pub all : length words ≡ elements program.arrays
  pub few : length tasks ≤ max_rows
  pub made : Trace
  pub memory : ℕ → ℕ
  pub goes : GoesSerially program MOST_RECORDS made memory Still.at_end
  pub logs_are : map spelled made ≡ map spelled tasks
  pub words_are : (word : ℕ) → word < length words → slice_index words word ≡ memory (element_address program.arrays word)

-- the serial run of the kernel, which is fixed, ends so, with room for so many records
abbrev pub EndsAs : Program → Still → Type 0
EndsAs program end = IsFixed program.main.body × ComesSerially program MOST_RECORDS end

-- Counted over the logs in their order, this record of the log of the task at this path, from 1, opens the first barrier interval that is too many.
pub record OpensTheFirst (tasks : Trace) (path : List Step) (number : ℕ) : Type 0 where
  pub index : ℕ
  pub task : TaskLog
  pub listed : slice_get tasks index ≡ Some task
  pub path_is : task.path ≡ path
  pub place : ℕ
  pub within : place < length task.records
  pub number_is : number ≡ place + 1
  pub full : segments_in (take index tasks) + segment_count (take place task.records) ≡ max_segments
  pub opens : segment_count (take (place + 1) task.records) ≡ segment_count (take place task.records) + 1

-- it has more barrier intervals than are compared, and this record opens the first that is too many
pub record OpensOneTooMany (program : Program) (path : List Step) (number : ℕ) : Type 0 where
  pub tasks : Trace
  pub words : List ℕ
  pub runs : RunsTo program tasks words
  pub first : OpensTheFirst tasks path number

-- its race pairs are these, and there is one
pub record HasRaces (program : Program) (pairs : List (ℕ × ℕ)) : Type 0 where
  pub tasks : Trace
  pub words : List ℕ
  pub runs : RunsTo program tasks words
  pub compared : segments_in tasks ≤ max_segments
  pub races : Lists (IsRacePair (logs_of tasks)) pairs
  pub some : pairs ≢ []

-- It is the certain run of the kernel, every run is this one, and it has so many tasks and records.
pub record HasCertainRun (program : Program) (count records : ℕ) (words : List ℕ) : Type 0 where
  pub tasks : Trace
  pub runs : RunsTo program tasks words
  pub compared : segments_in tasks ≤ max_segments
  pub certain : IsCertain program tasks
  pub only : (other : Trace) → IsRun program other → AreSame program tasks other
  pub count_is : count ≡ length tasks
  pub records_are : records ≡ record_total tasks

abbrev pub Tells : Program → Verdict → Type 0
Tells program (verdict.Construct line) = slice_get (construct_lines program.main.body) 0 ≡ Some line
Tells program (verdict.Long path number) = EndsAs program (Still.too_long path number)
Tells program (verdict.Stopped path line why) = EndsAs program (Still.stopped path line why)
Tells program (verdict.Segments path number) = OpensOneTooMany program path number
Tells program (verdict.Racy pairs) = HasRaces program pairs.keys
Tells program (verdict.Certain tasks records words) = HasCertainRun program tasks records words.items

-- the logs and words are those of such a run
pub record RunSpells (program : Program) (logs : List WholeLog) (words : List ℕ) : Type 0 where
  pub fixed : IsFixed program.main.body
  pub lawful : IsLawful program
  pub run : LogsSerialRun program (layout_of program.arrays) MOST_RECORDS logs words
  pub ends : EndsSerially program (layout_of program.arrays) MOST_RECORDS logs words
