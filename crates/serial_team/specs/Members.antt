-- The lanes of a team of a serial run, as contracts see them.
use Rattle.std.specs.Prelude.{◌≡◌, ℕ, ◌<◌, ◌≤◌, List, [], ◌∷◌, map, length, ℤ, slice_index_or}
use Rattle.sw_base.specs.declared.path.Step.{Step}
use Rattle.race_model.specs.Listing.{lane_of}
use Rattle.log_format.specs.declared.format.TheConstants.{FORMAT}
use Rattle.log_format.specs.declared.record.Kind.TheVariants as kind
use Rattle.log_format.specs.Format.{log_header}
use Rattle.kernel_syntax.specs.declared.syntax.Array.{Array}
use Rattle.kernel_syntax.specs.Tree.{TeamTree}
use Rattle.kernel_model.specs.State.{State, after, put, event}
use Rattle.kernel_model.specs.Trace.{run}
use Rattle.serial_run.specs.declared.memory.SerialMemory.{SerialMemory}
use Rattle.serial_run.specs.Stepping.{Stand, stand_left, stand}
use Rattle.serial_team.specs.declared.member.Member.{Member}
use Rattle.serial_team.specs.declared.member.Stage.{Stage}
use Rattle.serial_team.specs.declared.member.TaskLog.{TaskLog}

-- what all tasks of a run share: the words of all elements, and how many records may still be made
pub record Pool : Type 0 where
  pub words : List ℕ
  pub left : ℕ

abbrev pub pool : SerialMemory → Pool
pool memory = record { words = memory.words.items; left = memory.left }

abbrev pub pool_at : Stand → Pool
pool_at x = record { words = x.progress.words; left = x.progress.left }

-- a task that stands still, once others went on
abbrev pub amid : Stand → Pool → Stand
amid x p = record x { progress = record x.progress { words = p.words; left = p.left } }

-- a whole log: its task, its bytes, and how many records it has
pub record WholeLog : Type 0 where
  pub path : List Step
  pub bytes : List ℕ
  pub count : ℕ

abbrev pub whole_log : TaskLog → WholeLog
whole_log t = record { path = t.path; bytes = t.log.items; count = t.records }

-- a lane: where it stands, how many regions it forked, the logs of the tasks in them, and why it stands still
pub record MemberValue : Type 0 where
  pub stand : Stand
  pub forked : ℕ
  pub below : List WholeLog
  pub stage : Stage

-- it with this pool, which others left
abbrev pub later : MemberValue → Pool → MemberValue
later x p = record x { stand = amid x.stand p }

-- and without any
abbrev pub idle : MemberValue → MemberValue
idle x = later x (record { words = []; left = 0 })

abbrev pub seen : SerialMemory → Member → MemberValue
seen memory m = record { stand = stand m.lane memory; forked = m.forked; below = map whole_log m.below.items; stage = m.stage }

-- lanes between two phases, seen without what all tasks share
abbrev pub idle_member : Member → MemberValue
idle_member m = record {
  stand = record { at = m.lane.place; end = m.lane.end; slots = m.lane.locals.slots.items; rest = m.lane.rest.items; progress = record { log = m.lane.track.log.items; count = m.lane.track.count; words = []; left = 0 } };
  forked = m.forked;
  below = map whole_log m.below.items;
  stage = m.stage;
}

abbrev pub all_idle : List Member → List MemberValue
all_idle members = map idle_member members

-- the path of a lane of the region of this number of the task at this path
abbrev pub path_in : List Step → ℕ → MemberValue → List Step
path_in at number x = lane_of at number x.stand.at.lane x.stand.at.span

-- its own log, where its path is this, and then those of the tasks in its regions
abbrev pub logs_at : List Step → MemberValue → List WholeLog
logs_at path x = record { path = path; bytes = x.stand.progress.log; count = x.stand.progress.count } ∷ x.below

abbrev pub logs_of_member : List Step → ℕ → MemberValue → List WholeLog
logs_of_member at number x = logs_at (path_in at number x) x

-- The lane of this number begins: it has these locals, a log without a record, and all that its team executes is left.
pub record BeginsLane (arrays : List Array) (team : TeamTree) (slots : List ℤ) (lane : ℕ) (x : MemberValue) : Type 0 where
  pub at : x.stand.at ≡ record { arrays = arrays; lane = lane; span = team.span }
  pub locals : x.stand.slots ≡ slots
  pub log : x.stand.progress.log ≡ log_header FORMAT
  pub none : x.stand.progress.count ≡ 0
  pub whole : (s : State) → stand_left x.stand s ≡ after (run x.stand.at team.body s) (put (event kind.End team.end 0 0))
  pub unforked : x.forked ≡ 0
  pub none_below : x.below ≡ []

-- so do all lanes of the team
pub record BeginTeam (arrays : List Array) (team : TeamTree) (slots : List ℤ) (xs : List MemberValue) : Type 0 where
  pub some : 1 ≤ team.span
  pub count : length xs ≡ team.span
  pub each : (lane : ℕ) (d : MemberValue) → lane < team.span → BeginsLane arrays team slots lane (slice_index_or xs lane d)
