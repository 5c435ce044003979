use Rattle.log_format.specs.declared.format.TheConstants.{FORMAT}
use Rattle.folder_commands.specs.Confirm.{HasConfirmation}
use Rattle.folder_commands.proofs.FolderAnswers.{answered_of, refused_of}
use Rattle.folder_commands.proofs.confirming.confirm_records.Goals as goal

pub returns-in-Ok-clause-answers : goal.returns-in-Ok-clause-answers
returns-in-Ok-clause-answers g c = λ content told.
    let holds = c.in-Ok.ensures.walks.holds content told in
    answered_of (HasConfirmation c.args.first_row c.args.first c.args.second_row c.args.second) content.held c.args.dir.now holds.0 (c.in-Ok.ensures.walks.well_formed content told) holds.1 _ _ _
    (c.print_confirmed.ensures.answers holds.0 c.args.first_row c.args.first c.args.second_row c.args.second (c.in-Ok.ensures.confirmed content told holds.0 holds.1))

pub returns-in-Err-clause-answers : goal.returns-in-Err-clause-answers
returns-in-Err-clause-answers g c = λ content told.
    refused_of (HasConfirmation c.args.first_row c.args.first c.args.second_row c.args.second) content.held c.args.dir.now _ _ _
    (c.refuse.ensures.answers FORMAT content.held c.args.dir.now (c.in-Err.ensures.walks.refused content told))
