-- No answer for a run has the status of a refusal or of a failure.
use Rattle.std.proofs.Common.{◌≡◌, ◌⊎◌, inl, inr, ℕ, List, [], ◌∷◌, sym, ◌∙◌}
use Rattle.race_model.specs.Trace.{Trace}
use Rattle.command_answer.specs.Answer.{IsFailure}
use Rattle.command_answer.specs.declared.status.TheConstants.{DONE, RACES, FOLDER_REFUSED}
use Rattle.folder_commands.specs.Check.{HasReport, report_status}
use Rattle.folder_commands.specs.Confirm as confirm
use Rattle.folder_commands.specs.Confirm.{HasConfirmation}
use Rattle.folder_commands.specs.Explain as explain
use Rattle.folder_commands.specs.Explain.{HasExplanation}
use Rattle.folder_commands.specs.Show.{ShowsRecords}
use Rattle.folder_commands.proofs.FolderAnswers.{IsNoRefusal}

done_is_none : (status : ℕ) → status ≡ DONE → (status ≡ FOLDER_REFUSED) ⊎ IsFailure status → ⊥
done_is_none status is (inl refused) = let e = sym is ∙ refused in absurd (cc e)
done_is_none status is (inr (inl read)) = let e = sym is ∙ read in absurd (cc e)
done_is_none status is (inr (inr (inl write))) = let e = sym is ∙ write in absurd (cc e)
done_is_none status is (inr (inr (inr memory))) = let e = sym is ∙ memory in absurd (cc e)

races_are_none : (status : ℕ) → status ≡ RACES → (status ≡ FOLDER_REFUSED) ⊎ IsFailure status → ⊥
races_are_none status is (inl refused) = let e = sym is ∙ refused in absurd (cc e)
races_are_none status is (inr (inl read)) = let e = sym is ∙ read in absurd (cc e)
races_are_none status is (inr (inr (inl write))) = let e = sym is ∙ write in absurd (cc e)
races_are_none status is (inr (inr (inr memory))) = let e = sym is ∙ memory in absurd (cc e)

report_is_none : (pairs : List (ℕ × ℕ)) (status : ℕ) → status ≡ report_status pairs → (status ≡ FOLDER_REFUSED) ⊎ IsFailure status → ⊥
report_is_none [] status is = done_is_none status is
report_is_none (pair ∷ pairs) status is = races_are_none status is

pub no_refused_report : IsNoRefusal HasReport
no_refused_report trace status text report = report_is_none report.pairs status report.status_is

pub no_refused_listing : IsNoRefusal ShowsRecords
no_refused_listing trace status text shows = done_is_none status shows.status_is

pub no_refused_explanation : (low high : ℕ) → IsNoRefusal (HasExplanation low high)
no_refused_explanation low high trace status text (explain.race found one other least confirmed _ _ is _) = races_are_none status is
no_refused_explanation low high trace status text (explain.no_race none is _) = done_is_none status is

pub no_refused_confirmation : (a i b j : ℕ) → IsNoRefusal (HasConfirmation a i b j)
no_refused_confirmation a i b j trace status text (confirm.race byte confirmed is _) = races_are_none status is
no_refused_confirmation a i b j trace status text (confirm.no_race none is _) = done_is_none status is
