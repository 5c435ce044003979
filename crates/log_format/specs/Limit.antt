-- How long a log may be, and how many tasks a run may have.
use Rattle.std.specs.Prelude.{ℕ}

-- how many records a log has at most
abbrev pub record_limit : ℕ
record_limit = 4194304

-- how many tasks may be below the root of a run
abbrev pub task_limit : ℕ
task_limit = 65535
