-- A folder that holds whole logs.
use Rattle.std.specs.Prelude.{◌≡◌, ℕ, List, [], ◌∷◌, map, Option, Some}
use Rattle.sw_base.specs.Environment.{Content, with_put}
use Rattle.sw_base.specs.Names.{log_name}
use Rattle.log_format.specs.declared.format.TheConstants.{FORMAT}
use Rattle.race_model.specs.FirstBad.{HoldsTrace}
use Rattle.race_model.specs.KeepsRules.{KeepsRules}
use Rattle.race_model.specs.Row.{Row}
use Rattle.race_model.specs.Trace.{Trace}
use Rattle.serial_team.specs.Members.{WholeLog}
use Rattle.serial_laws.specs.SerialRuns.{spelled}

-- a folder after a whole log was put
abbrev pub with_whole_log : List ℕ → WholeLog → Content → Content
with_whole_log dir log content = with_put (log_name dir log.path) log.bytes content

-- after all of them were, one after another
abbrev pub with_logs : List ℕ → List WholeLog → Content → Content
with_logs dir [] content = content
with_logs dir (log ∷ logs) content = with_logs dir logs (with_whole_log dir log content)

-- the row of a log
abbrev pub row_of_log : WholeLog → Row
row_of_log log = record { path = log.path; records = log.count }

-- the logs spell the records of tasks that keep every rule
pub record KeepRules (logs : List WholeLog) : Type 0 where
  pub tasks : Trace
  pub logs_are : logs ≡ map spelled tasks
  pub rules : KeepsRules FORMAT tasks

-- the folder tells what it holds: the tasks whose records these logs spell
pub record HoldsTasks (dir : List ℕ) (logs : List WholeLog) (told : Option Content) : Type 0 where
  pub content : Content
  pub is : told ≡ Some content
  pub holds : (tasks : Trace) → logs ≡ map spelled tasks → KeepsRules FORMAT tasks → HoldsTrace FORMAT content.held dir tasks
