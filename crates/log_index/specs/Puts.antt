-- Putting the logs of a run and their index into a folder.
use Rattle.std.specs.Prelude.{◌≡◌, ℕ, List, [], ◌∷◌, ◌++◌, Option}
use Rattle.std.specs.Option.{option_map}
use Rattle.log_format.specs.declared.format.TheConstants.{FORMAT}
use Rattle.log_format.specs.Format.{log_header}
use Rattle.sw_base.specs.Environment.{Content, LeavesPrefix, with_put}
use Rattle.sw_base.specs.Names.{index_name, log_name}
use Rattle.log_format.specs.Spelling.{log_bytes}
use Rattle.race_model.specs.FirstBad.{rows_of}
use Rattle.race_model.specs.Row.{index_bytes}
use Rattle.race_model.specs.Trace.{TaskLog, Trace}

-- a folder after a task's log was put
abbrev pub with_task : List ℕ → TaskLog → Content → Content
with_task dir task content = with_put (log_name dir task.path) (log_bytes (log_header FORMAT) task.records) content

-- after those of a run, in the order of their rows
abbrev pub with_tasks : List ℕ → Trace → Content → Content
with_tasks dir [] content = content
with_tasks dir (task ∷ tasks) content = with_tasks dir tasks (with_task dir task content)

-- and then its index
abbrev pub with_run : List ℕ → Trace → Content → Content
with_run dir trace content = with_put (index_name dir) (index_bytes FORMAT (rows_of trace)) (with_tasks dir trace content)

-- the log of a task has a prefix, or is as before
abbrev pub LeavesTask : List ℕ → TaskLog → Option Content → Option Content → Type 0
LeavesTask dir task old new = LeavesPrefix old new (log_name dir task.path) (log_bytes (log_header FORMAT) task.records)

-- the first logs were put, and perhaps a prefix of the next one
pub record PutsLogs (dir : List ℕ) (trace : Trace) (old new : Option Content) : Type 0 where
  pub first : Trace
  pub next : TaskLog
  pub later : Trace
  pub parts : trace ≡ first ++ next ∷ later
  pub leaves : LeavesTask dir next (option_map (with_tasks dir first) old) new

-- Putting a run was broken off: the first logs were put, or all of them and perhaps a prefix of the index.
pub data PutsPart (dir : List ℕ) (trace : Trace) (old new : Option Content) : Type 0 where
  logs : PutsLogs dir trace old new → PutsPart dir trace old new
  index : LeavesPrefix (option_map (with_tasks dir trace) old) new (index_name dir) (index_bytes FORMAT (rows_of trace)) → PutsPart dir trace old new
