-- The answer for a folder, by that for its run or its first bad place.
use Rattle.std.proofs.Common.{◌≡◌, ◌⊎◌, ◌↔◌, inl, inr, ℕ, List, Option, sym, ◌∙◌}
use Rattle.log_format.specs.declared.format.TheConstants.{FORMAT}
use Rattle.sw_base.specs.Environment.{Files, GainsPrefix}
use Rattle.race_model.specs.Trace.{Trace}
use Rattle.race_model.specs.FirstBad.{HoldsTrace}
use Rattle.race_model.specs.WellFormed.{IsWellFormed}
use Rattle.race_laws.proofs.FolderKeepsRules.{keeps_rules}
use Rattle.command_answer.specs.Answer.{Answers, IsFailure, Tries, failed, given}
use Rattle.command_answer.specs.declared.status.TheConstants.{FOLDER_REFUSED}
use Rattle.command_answer.proofs.Answering.{Tries-weaker}
use Rattle.folder_commands.specs.Check.{AnswersForRun, AnswersRefusal, FolderDue, HoldsGoodRun, IsRefusedFolder, answered, answers, fails, refused, refuses}
use Rattle.folder_races.proofs.FewSegments.{few_segments, kept_is_well_formed}

-- the run of a folder that is bad nowhere is a good one
pub good_run : (files : Files) (dir : List ℕ) (trace : Trace) → IsWellFormed FORMAT files dir → HoldsTrace FORMAT files dir trace → HoldsGoodRun files dir trace
good_run files dir trace good holds = record { holds = holds; keeps = keeps_rules files dir trace holds good; few = few_segments files dir trace holds good }

-- and a folder that holds one is bad nowhere
pub no_bad_place : (files : Files) (dir : List ℕ) (trace : Trace) → HoldsGoodRun files dir trace → IsWellFormed FORMAT files dir
no_bad_place files dir trace run = kept_is_well_formed files dir trace run.holds run.keeps run.few

-- the answer for the run of a folder is the folder's
pub answered_of : (answer : Trace → ℕ → List ℕ → Type 0) (files : Files) (dir : List ℕ) (trace : Trace) → IsWellFormed FORMAT files dir → HoldsTrace FORMAT files dir trace
    → (old new : Option (List ℕ)) (result : ℕ) → Tries (answer trace) old new result → Tries (FolderDue answer files dir) old new result
answered_of answer files dir trace good holds old new result = Tries-weaker (answer trace) (FolderDue answer files dir) old new result (λ status text is. answered trace (good_run files dir trace good holds) is)

-- the answer for its first bad place is the folder's
pub refused_of : (answer : Trace → ℕ → List ℕ → Type 0) (files : Files) (dir : List ℕ) (old new : Option (List ℕ)) (result : ℕ) → Tries (IsRefusedFolder FORMAT files dir) old new result
    → Tries (FolderDue answer files dir) old new result
refused_of answer files dir old new result = Tries-weaker (IsRefusedFolder FORMAT files dir) (FolderDue answer files dir) old new result (λ status text is. refused is)

-- no answer for a run has the status of a refusal or of a failure
abbrev pub IsNoRefusal : (Trace → ℕ → List ℕ → Type 0) → Type 0
IsNoRefusal answer = (trace : Trace) (status : ℕ) (text : List ℕ) → answer trace status text → (status ≡ FOLDER_REFUSED) ⊎ IsFailure status → ⊥

refusal_is_no_failure : (status : ℕ) → status ≡ FOLDER_REFUSED → IsFailure status → ⊥
refusal_is_no_failure status is (inl read) = let e = sym is ∙ read in absurd (cc e)
refusal_is_no_failure status is (inr (inl write)) = let e = sym is ∙ write in absurd (cc e)
refusal_is_no_failure status is (inr (inr memory)) = let e = sym is ∙ memory in absurd (cc e)

module _ (answer : Trace → ℕ → List ℕ → Type 0) (files : Files) (dir : List ℕ) (old new : Option (List ℕ)) (status : ℕ) where
  -- the answer for a folder is one for its run
  pub for_run : Answers (FolderDue answer files dir) old new status → AnswersForRun answer files dir old new status
  for_run (given text (answered trace good is) all) = answers trace text good is all
  for_run (given text (refused is) all) = refuses is.status_is (λ trace good. no_bad_place files dir trace good is.place is.first.bad)
  for_run (failed failure prefix) = fails failure (λ trace due text good is. prefix due text (answered trace good is))

  -- or a refusal
  pub refusal : IsNoRefusal answer → Answers (FolderDue answer files dir) old new status → AnswersRefusal files dir old new status
  refusal none (given text (answered trace good is) all) = λ so. absurd (none trace status text is so)
  refusal none (given text (refused is) all) = λ so. given text is all
  refusal none (failed failure prefix) = λ so. failed failure (λ due text is. prefix due text (refused is))

  -- and both are all that is answered
  pub folder_due : AnswersForRun answer files dir old new status → AnswersRefusal files dir old new status → Answers (FolderDue answer files dir) old new status
  folder_due (answers trace text good is all) refusal = given text (answered trace good is) all
  folder_due (refuses is none) refusal = by (refusal (inl is)) where
    by : Answers (IsRefusedFolder FORMAT files dir) old new status → Answers (FolderDue answer files dir) old new status
    by (given text place all) = given text (refused place) all
    by (failed failure prefix) = absurd (refusal_is_no_failure status is failure)
  folder_due (fails failure prefix) refusal = failed failure at where
    by : (due : ℕ) (text : List ℕ) → IsRefusedFolder FORMAT files dir due text → Answers (IsRefusedFolder FORMAT files dir) old new status → GainsPrefix old new text
    by due text is (given other place all) = absurd (refusal_is_no_failure status place.status_is failure)
    by due text is (failed _ part) = part due text is

    at : (due : ℕ) (text : List ℕ) → FolderDue answer files dir due text → GainsPrefix old new text
    at due text (answered trace good is) = prefix trace due text good is
    at due text (refused is) = by due text is (refusal (inr failure))

  pub due_parts : IsNoRefusal answer → Answers (FolderDue answer files dir) old new status ↔ (AnswersForRun answer files dir old new status × AnswersRefusal files dir old new status)
  due_parts none = (λ due. (for_run due, refusal none due), λ both. folder_due both.0 both.1)
