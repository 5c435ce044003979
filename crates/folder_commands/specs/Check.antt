-- What `check` answers: the first bad place of the folder, or the race pairs of the run that it holds.
use Rattle.std.specs.Prelude.{◌≡◌, ◌⊎◌, ◌≤◌, ℕ, List, [], ◌∷◌, Option}
use Rattle.log_format.specs.declared.format.Format.{Format}
use Rattle.log_format.specs.declared.format.TheConstants.{FORMAT}
use Rattle.sw_base.specs.declared.path.Step.{Step}
use Rattle.sw_base.specs.Environment.{Files, GainsPrefix, gained}
use Rattle.race_model.specs.BadPlace.{BadPlace, no_index, bad_row, missing_log, bad_record, too_many_segments}
use Rattle.race_model.specs.FirstBad.{IsFirstBad, HoldsTrace, segments_in}
use Rattle.race_model.specs.KeepsRules.{KeepsRules}
use Rattle.race_model.specs.LogFault.{max_segments}
use Rattle.race_model.specs.Race.{IsRacePair, Lists}
use Rattle.race_model.specs.Trace.{Trace, logs_of}
use Rattle.race_report.specs.Report.{report_text}
use Rattle.log_walk.specs.Walk.{IsLogRow}
use Rattle.command_answer.specs.Answer.{Answers, IsFailure}
use Rattle.command_answer.specs.declared.status.TheConstants.{DONE, RACES, FOLDER_REFUSED}
use Rattle.folder_commands.specs.Texts.{no_index_text, bad_row_text, missing_log_text, bad_record_text, too_many_segments_text}

-- whether there are races
abbrev pub report_status : List (ℕ × ℕ) → ℕ
report_status [] = DONE
report_status (pair ∷ pairs) = RACES

-- a text that names the log of a row of the folder's index
abbrev pub NamesLog : Format → Files → List ℕ → ℕ → (List Step → List ℕ) → List ℕ → Type 0
NamesLog format files dir row text_of text = (path : List Step) × IsLogRow format files dir path row × (text ≡ text_of path)

-- the text for a bad place
abbrev pub IsPlaceText : Format → Files → List ℕ → BadPlace → List ℕ → Type 0
IsPlaceText format files dir no_index text = text ≡ no_index_text
IsPlaceText format files dir (bad_row n why) text = text ≡ bad_row_text n why
IsPlaceText format files dir (missing_log row) text = NamesLog format files dir row missing_log_text text
IsPlaceText format files dir (bad_record row n why) text = NamesLog format files dir row (λ path. bad_record_text path n why) text
IsPlaceText format files dir (too_many_segments row n) text = NamesLog format files dir row (λ path. too_many_segments_text path n) text

-- a folder of this format is refused at its first bad place
pub record IsRefusedFolder (format : Format) (files : Files) (dir : List ℕ) (status : ℕ) (text : List ℕ) : Type 0 where
  pub place : BadPlace
  pub first : IsFirstBad format files dir place
  pub names : IsPlaceText format files dir place text
  pub status_is : status ≡ FOLDER_REFUSED

-- The folder holds this run, which keeps every rule of a folder and has no segment too many: it is bad nowhere.
pub record HoldsGoodRun (files : Files) (dir : List ℕ) (trace : Trace) : Type 0 where
  pub holds : HoldsTrace FORMAT files dir trace
  pub keeps : KeepsRules FORMAT trace
  pub few : segments_in trace ≤ max_segments

-- what is due of a command that reads the run of a folder: the first bad place, or the command's answer for the run
pub data FolderDue (answer : Trace → ℕ → List ℕ → Type 0) (files : Files) (dir : List ℕ) (status : ℕ) (text : List ℕ) : Type 0 where
  refused : IsRefusedFolder FORMAT files dir status text → FolderDue answer files dir status text
  answered : (trace : Trace) → HoldsGoodRun files dir trace → answer trace status text → FolderDue answer files dir status text

-- What a command answers for the run of a folder: the answer for the good run that the folder holds was printed; or the folder was refused, and it
-- holds none; or the environment failed or no memory was found, after a prefix of each answer that was due for such a run.
pub data AnswersForRun (answer : Trace → ℕ → List ℕ → Type 0) (files : Files) (dir : List ℕ) (old new : Option (List ℕ)) (status : ℕ) : Type 0 where
  answers : (trace : Trace) (text : List ℕ) → HoldsGoodRun files dir trace → answer trace status text → new ≡ gained old text → AnswersForRun answer files dir old new status
  refuses : status ≡ FOLDER_REFUSED → ((trace : Trace) → HoldsGoodRun files dir trace → ⊥) → AnswersForRun answer files dir old new status
  fails : IsFailure status → ((trace : Trace) (due : ℕ) (text : List ℕ) → HoldsGoodRun files dir trace → answer trace due text → GainsPrefix old new text)
      → AnswersForRun answer files dir old new status

-- and where it refuses the folder: the first bad place was printed, or a prefix of that text
abbrev pub AnswersRefusal : Files → List ℕ → Option (List ℕ) → Option (List ℕ) → ℕ → Type 0
AnswersRefusal files dir old new status = (status ≡ FOLDER_REFUSED) ⊎ IsFailure status → Answers (IsRefusedFolder FORMAT files dir) old new status

-- the report of the race pairs of a run
pub record HasReport (trace : Trace) (status : ℕ) (text : List ℕ) : Type 0 where
  pub pairs : List (ℕ × ℕ)
  pub races : Lists (IsRacePair (logs_of trace)) pairs
  pub text_is : text ≡ report_text pairs
  pub status_is : status ≡ report_status pairs
