-- The log of a task as it is handed on, and what sealing such logs does to a folder.
use Rattle.std.specs.Prelude.{◌≡◌, ℕ, List, [], ◌∷◌, ◌++◌, Bool, Option, Some, None, is_some}
use Rattle.std.specs.Option.{option_map}
use Rattle.sw_base.specs.Environment.{Content, Outline, Text, outline_of, with_outline, with_put}
use Rattle.sw_base.specs.Names.{log_name}
use Rattle.sw_base.specs.declared.closed_log.ClosedLog.{ClosedLog}
use Rattle.sw_base.specs.declared.path.Step.{Step}

-- what is told of a log, where it tells its content
abbrev pub outline : Option Text → Option Outline
outline text = option_map outline_of text

-- a task's log: the task, the log's folder and path, what it tells, and how many records were put
pub record HandedLog : Type 0 where
  pub task : List Step
  pub dir : List ℕ
  pub path : List Step
  pub told : Option Outline
  pub count : ℕ

-- a closed log by what is seen of it
abbrev pub handed_log : {L : Type 0} → (L → List ℕ) → (L → List Step) → (L → Option Text) → ClosedLog L → HandedLog
handed_log dir path text closed = record { task = closed.path; dir = dir closed.log; path = path closed.log; told = outline (text closed.log); count = closed.records }

-- the log is that of its task, in the folder `dir`, and tells its content or doesn't
pub record IsOwnLog (dir : List ℕ) (tells : Bool) (log : HandedLog) : Type 0 where
  pub dir_is : log.dir ≡ dir
  pub path_is : log.path ≡ log.task
  pub tells_so : is_some log.told ≡ tells

-- the name under which it is sealed
abbrev pub sealed_name : HandedLog → List ℕ
sealed_name log = log_name log.dir log.path

-- a folder after a log was sealed that tells its content
abbrev pub with_told : List ℕ → Option Outline → Content → Content
with_told name None content = content
with_told name (Some outline) content = with_outline name outline content

-- a folder after these logs were sealed, one after another
abbrev pub with_sealed : List HandedLog → Content → Content
with_sealed [] content = content
with_sealed (log ∷ logs) content = with_sealed logs (with_told (sealed_name log) log.told content)

-- Sealing these logs was broken off: the first of them are sealed, and a prefix of the next may stand under its name.
pub data SealsPrefix (logs : List HandedLog) (old new : Content) : Type 0 where
  between : (first rest : List HandedLog) → logs ≡ first ++ rest → new ≡ with_sealed first old → SealsPrefix logs old new
  torn : (first : List HandedLog) (next : HandedLog) (rest : List HandedLog) → logs ≡ first ++ next ∷ rest → (told : Outline) → next.told ≡ Some told
      → (prefix behind : List ℕ) → told.bytes ≡ prefix ++ behind → new ≡ with_put (sealed_name next) prefix (with_sealed first old) → SealsPrefix logs old new
