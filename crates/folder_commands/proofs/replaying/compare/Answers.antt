use Rattle.kernel_syntax.specs.Program.{program_of}
use Rattle.log_format.specs.declared.format.TheConstants.{FORMAT}
use Rattle.folder_commands.specs.Replay.{HasReplay}
use Rattle.folder_commands.proofs.FolderAnswers.{answered_of, refused_of}
use Rattle.folder_commands.proofs.replaying.compare.Goals as goal

pub returns-in-Ok-clause-answers : goal.returns-in-Ok-clause-answers
returns-in-Ok-clause-answers g c = λ content told.
    let answers = c.in-Ok.ensures.compares in
    answered_of (HasReplay (program_of c.args.kernel.now)) content.held c.args.dir.now answers.tasks (answers.well_formed content told) (answers.holds content told) _ _ _
    (c.print_found.ensures.answers (program_of c.args.kernel.now) answers.tasks (answers.replayed content told))

pub returns-in-Err-clause-answers : goal.returns-in-Err-clause-answers
returns-in-Err-clause-answers g c = λ content told.
    refused_of (HasReplay (program_of c.args.kernel.now)) content.held c.args.dir.now _ _ _ (c.refuse.ensures.answers FORMAT content.held c.args.dir.now (c.in-Err.ensures.refused content told))
