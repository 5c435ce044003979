use Rattle.folder_commands.proofs.FolderAnswers.{due_parts}
use Rattle.folder_commands.proofs.NoRefusals.{no_refused_confirmation, no_refused_explanation, no_refused_listing, no_refused_report}
use Rattle.folder_commands.proofs.laws.answers_are_for_runs_or_refusals.Goals as goal

pub returns-clause-check : goal.returns-clause-check
returns-clause-check c = λ files dir old new status. due_parts _ files dir old new status no_refused_report

pub returns-clause-show : goal.returns-clause-show
returns-clause-show c = λ files dir old new status. due_parts _ files dir old new status no_refused_listing

pub returns-clause-explain : goal.returns-clause-explain
returns-clause-explain c = λ low high files dir old new status. due_parts _ files dir old new status (no_refused_explanation low high)

pub returns-clause-confirm : goal.returns-clause-confirm
returns-clause-confirm c = λ a i b j files dir old new status. due_parts _ files dir old new status (no_refused_confirmation a i b j)
