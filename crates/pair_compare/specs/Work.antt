-- The work of comparing groups: runs of some members that meet a range of bytes.
use Rattle.std.specs.Prelude.{◌≡◌, ℕ, ◌<◌, ◌≤◌, ◌-◌, List, [], length, false, Contains, take}
use Rattle.std.specs.List.{sum_by}
use Rattle.stride_summary.specs.declared.run.Run.{Run}
use Rattle.pair_compare.specs.Conflict.{AddsPairs, OneHas}
use Rattle.pair_compare.specs.Sweeps.{IsMetPair, IsReachOf, Reach, bytes_at}
use Rattle.pair_compare.specs.declared.member.Member.{Member}
use Rattle.pair_compare.specs.declared.task.Task.{Task}
use Rattle.pair_compare.specs.declared.worker.Worker.{Worker}

-- the run's reach over these bytes, if they meet the range
abbrev pub IsMetStretch : ℕ → ℕ → ℕ → Run → ℕ × ℕ → Reach → Type 0
IsMetStretch low high part run bytes reach = (reach ≡ record { part = part; run = run; low = bytes.0; high = bytes.1 }) × (bytes.0 ≤ high) × (low ≤ bytes.1)

-- the reach over one of the run's first so many addresses, if it meets the range
pub record IsMetSingle (low high part : ℕ) (run : Run) (places : ℕ) (reach : Reach) : Type 0 where
  pub place : ℕ
  pub among : place < places
  pub met : IsMetStretch low high part run (bytes_at run place) reach

-- a reach of the run that meets the range
abbrev pub IsMetReach : ℕ → ℕ → ℕ → ℕ → Run → Reach → Type 0
IsMetReach singly low high part run reach = IsReachOf singly part run reach × (reach.low ≤ high) × (low ≤ reach.high)

-- a reach of one of the member's runs that meets the range
abbrev pub IsMemberReach : ℕ → ℕ → ℕ → Member → Reach → Type 0
IsMemberReach singly low high member reach = OneHas (IsMetReach singly low high member.part) member.runs.now reach

-- what of the member reaches into the range doesn't write
abbrev pub NeverWrites : ℕ → ℕ → Member → Type 0
NeverWrites low high member = (singly : ℕ) (reach : Reach) → IsMemberReach singly low high member reach → reach.run.write ≡ false

-- the line pair of a conflict of runs of members of different parts, which reach over a common byte: the later one begins in the range
abbrev pub IsPairAt : List Member → ℕ → ℕ → ℕ → ℕ × ℕ → Type 0
IsPairAt members singly low high pair = IsMetPair low (OneHas (IsMemberReach singly low high) members) pair

abbrev pub IsTaskPair : Task → ℕ × ℕ → Type 0
IsTaskPair task pair = IsPairAt task.members.now task.singly task.low task.high pair

-- the line pair of one of the worker's tasks
abbrev pub IsWorkerPair : Worker → ℕ × ℕ → Type 0
IsWorkerPair worker pair = OneHas IsTaskPair worker.tasks.now pair

-- the worker has its tasks as before, and found the pairs of all of them unless memory was wanting
pub record HasSearched (old new : Worker) : Type 0 where
  pub same : new.tasks.now ≡ old.tasks.now
  pub found : new.refused ≡ false → AddsPairs old.pairs.keys new.pairs.keys (IsWorkerPair old)

-- the worker has found nothing
abbrev pub HasNothing : Worker → Type 0
HasNothing worker = worker.pairs.keys ≡ []

abbrev pub HasFound : Worker → ℕ × ℕ → Type 0
HasFound worker pair = Contains worker.pairs.keys pair

-- about how many runs the tasks have
abbrev pub total_runs : List Task → ℕ
total_runs tasks = sum_by (λ task. task.runs) tasks

-- without its last task the worker has at most so many runs
abbrev pub HasShare : ℕ → Worker → Type 0
HasShare most worker = total_runs (take (length worker.tasks.now - 1) worker.tasks.now) ≤ most
