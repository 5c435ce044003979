-- What sealing the logs of a run does to a folder.
use Rattle.std.specs.Prelude.{◌≡◌, ℕ, ◌<◌, List, ◌++◌, map, All, Option, Some, true, Result, OnOk}
use Rattle.log_format.specs.declared.format.TheConstants.{FORMAT}
use Rattle.sw_base.specs.declared.closed_log.ClosedLog.{ClosedLog}
use Rattle.sw_base.specs.declared.path.Step.{Step}
use Rattle.sw_base.specs.declared.trouble.Trouble.{Trouble}
use Rattle.sw_base.specs.Environment.{Content, Text, with_put}
use Rattle.sw_base.specs.Names.{index_name}
use Rattle.race_model.specs.Row.{Row, index_bytes}
use Rattle.sw_base.specs.HandedLog.{IsOwnLog, HandedLog, handed_log, SealsPrefix, with_sealed}

-- the logs of a run, as they are answered
abbrev pub all_logged : {L : Type 0} → (L → List ℕ) → (L → List Step) → (L → Option Text) → List (ClosedLog L) → List HandedLog
all_logged dir_of path_of text_of entries = map (handed_log dir_of path_of text_of) entries

-- the row of a log's task
abbrev pub row_of_entry : {L : Type 0} → ClosedLog L → Row
row_of_entry closed = record { path = closed.path; records = closed.records }

abbrev pub rows_of_logs : List HandedLog → List Row
rows_of_logs logs = map (λ (log : HandedLog). record { path = log.task; records = log.count }) logs

-- where one of the logs counts a fault, this holds
abbrev pub RaiseFaults : {L : Type 0} → (L → ℕ) → List (ClosedLog L) → Type 0 → Type 0
RaiseFaults faults_of entries rose = All (λ closed. 0 < faults_of closed.log → rose) entries

-- what a folder tells, and a fact about it
pub record TellsSuch (told : Option Content) (P : Content → Type 0) : Type 0 where
  pub content : Content
  pub is : told ≡ Some content
  pub holds : P content

-- The logs were sealed one after another; or one was refused, and then the first of them are sealed.
pub record Seals (logs : List HandedLog) (result : Result (Unit {0}) Trouble) (old new : Content) : Type 0 where
  pub done : OnOk result (new ≡ with_sealed logs old)
  pub prefix : SealsPrefix logs old new

-- the logs are of the folder, and tell what they hold
abbrev pub AllTell : List ℕ → List HandedLog → Type 0
AllTell dir logs = All (IsOwnLog dir true) logs

-- the same of a folder that may tell
abbrev pub SealsAll : List HandedLog → Result (Unit {0}) Trouble → Option Content → Option Content → Type 0
SealsAll logs result old new =
    (dir : List ℕ) (c : Content) → AllTell dir logs → old ≡ Some c → TellsSuch new (Seals logs result c)

-- a folder after the logs were sealed and these bytes were put under the index's name
abbrev pub with_index : List ℕ → List HandedLog → List ℕ → Content → Content
with_index dir logs bytes content = with_put (index_name dir) bytes (with_sealed logs content)

-- Storing a run was refused: the first of its logs are sealed; or all are, and a prefix of the index is there.
pub data StoresPart (dir : List ℕ) (logs : List HandedLog) (old new : Content) : Type 0 where
  part : SealsPrefix logs old new → StoresPart dir logs old new
  prefix : (prefix rest : List ℕ) → index_bytes FORMAT (rows_of_logs logs) ≡ prefix ++ rest → new ≡ with_index dir logs prefix old → StoresPart dir logs old new

-- a run was stored in a folder that may tell
abbrev pub StoresAll : List ℕ → List HandedLog → Option Content → Option Content → Type 0
StoresAll dir logs old new =
    (c : Content) → AllTell dir logs → old ≡ Some c → new ≡ Some (with_index dir logs (index_bytes FORMAT (rows_of_logs logs)) c)

-- or refused
abbrev pub StoresPrefix : List ℕ → List HandedLog → Option Content → Option Content → Type 0
StoresPrefix dir logs old new = (c : Content) → AllTell dir logs → old ≡ Some c → TellsSuch new (StoresPart dir logs c)
