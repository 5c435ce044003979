-- What all regions of a run have in common.
use Rattle.std.specs.Prelude.{◌≡◌, ℕ, ◌+◌, List, length}
use Rattle.sw_base.specs.declared.environment.Log.{Ghosts}
use Rattle.sw_base.specs.declared.path.Step.{Step}
use Rattle.event_buffer.specs.Buffered.{Buffered}
use Rattle.kernel_syntax.specs.declared.syntax.Array.{Array}
use Rattle.kernel_syntax.specs.Layout.{ArePlaced, elements}
use Rattle.kernel_syntax.specs.Tree.{TeamTree}
use Rattle.kernel_model.specs.declared.phase.Item.{Item}
use Rattle.shared_words.specs.Handles.{ChunksValue, WordsValue}
use Rattle.lane_runner.specs.Children.{AreNewLogs}
use Rattle.execution_model.specs.Elements.{HaveOwnWords}
use Rattle.region_runner.specs.Answer.{IsBufferSize}
use Rattle.region_runner.specs.Crew.{CrewValue}
use Rattle.region_runner.specs.Lawful.{IsTeam, IsLawfulPhase}
use Rattle.lane_runner.specs.Lane.{LaneValue}

-- the kernel's arrays, the shared words, and the size of a buffer
pub record GroundValue : Type 0 where
  pub arrays : List Array
  pub words : WordsValue
  pub size : ℕ

-- the table has as many words as the arrays have elements, and each of these is a word of its own
pub record IsGround (g : GroundValue) : Type 0 where
  pub count : g.words.elements ≡ elements g.arrays
  pub placed : ArePlaced g.arrays g.words.elements
  pub apart : HaveOwnWords g.arrays
  pub size : IsBufferSize g.size

-- the crew of a team of so many lanes with these counters
abbrev pub crew_of : GroundValue → ChunksValue → ℕ → CrewValue
crew_of g chunks span = record { arrays = g.arrays; words = g.words; chunks = chunks; span = span }

-- the rules of the language hold of a team in this many regions, itself among them, by the mutexes that the words have
pub record IsOurTeam (g : GroundValue) (regions : ℕ) (team : TeamTree) : Type 0 where
  pub mutexes : ℕ
  pub locks : g.words.locks ≡ mutexes + 1
  pub lawful : IsTeam mutexes regions team

-- the same of a phase of such a team
pub record IsOurPhase (g : GroundValue) (regions : ℕ) (items : List Item) : Type 0 where
  pub mutexes : ℕ
  pub locks : g.words.locks ≡ mutexes + 1
  pub lawful : IsLawfulPhase mutexes regions items

-- the logs are new ones of the lanes of the region of this number of the task at this path
pub record AreLanesLogs {T : Type 0} (g : GroundValue) (seen : Ghosts T) (path : List Step) (number span : ℕ) (logs : List T) : Type 0 where
  pub task : Buffered
  pub path_is : task.path ≡ path
  pub size_is : task.size ≡ g.size
  pub new : AreNewLogs seen task number span logs

-- a lane whose task has its log, in as many regions as leave so many to nest
pub record IsOurLane (g : GroundValue) (depth : ℕ) (m : LaneValue) : Type 0 where
  pub path_is : m.buffer.path ≡ m.path
  pub deep : length m.path + depth ≡ 4
  pub size_is : m.buffer.size ≡ g.size
