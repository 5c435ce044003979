-- What is seen of a log in memory.
use Rattle.std.specs.Prelude.{◌≡◌, ℕ, List, map, Option, Some, string_bytes}
use Rattle.sw_base.specs.Environment.{Text}
use Rattle.memory_environment.specs.InMemory.{Counted, CountsCall}
use Rattle.memory_environment.specs.Plans.{Plan, plans_by}
use Rattle.memory_environment.specs.declared.log.MemLog.{MemLog}
use Rattle.sw_base.specs.declared.path.Step.{Step}

-- the folder's name
abbrev pub dir_of : MemLog → List ℕ
dir_of log = string_bytes log.dir

-- the task's path
abbrev pub path_of : MemLog → List Step
path_of log = log.path

-- the bytes
abbrev pub bytes_of : MemLog → List ℕ
bytes_of log = log.bytes.items

-- the pieces that were appended with success
abbrev pub pieces_of : MemLog → List (List ℕ)
pieces_of log = map (λ piece. piece.items) log.pieces.items

-- both, which it tells
abbrev pub text_of : MemLog → Option Text
text_of log = Some (record { bytes = bytes_of log; pieces = pieces_of log })

-- how often a call failed
abbrev pub faults_of : MemLog → ℕ
faults_of log = log.faults

-- how many calls there were
abbrev pub calls_of : MemLog → ℕ
calls_of log = log.calls.made

-- the numbers of the calls that are to fail
abbrev pub failing_of : MemLog → List ℕ
failing_of log = log.calls.failing.items

-- which calls are to fail on the logs that are made from it
abbrev pub plans_of : MemLog → List Plan
plans_of log = plans_by log.plans

-- its calls
abbrev pub counted_of : MemLog → Counted
counted_of log = record { calls = calls_of log; failing = failing_of log; faults = faults_of log }

-- one call more, and whether it failed
pub record CountsLogCall (failed : Type 0) (old new : MemLog) : Type 0 where
  pub counts : CountsCall failed (counted_of old) (counted_of new)
  pub same_plans : plans_of new ≡ plans_of old
