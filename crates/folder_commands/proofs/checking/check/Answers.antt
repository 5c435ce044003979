use Rattle.std.proofs.Common.{refl}
use Rattle.command_answer.proofs.Answering.{Answers-of, Tries-from_prints}
use Rattle.log_format.specs.declared.format.TheConstants.{FORMAT}
use Rattle.folder_commands.specs.Check.{HasReport}
use Rattle.folder_commands.proofs.OneAnswer.{one_report}
use Rattle.folder_commands.proofs.FolderAnswers.{answered_of, refused_of}
use Rattle.folder_commands.proofs.checking.check.Goals as goal

pub returns-in-Ok-clause-answers : goal.returns-in-Ok-clause-answers
returns-in-Ok-clause-answers g c = λ content told.
    let found = c.in-Ok.ensures.pairs in
    Answers-of _ (one_report content.held c.args.dir.now) _ _ _
    (answered_of HasReport content.held c.args.dir.now found.trace (found.well_formed content told) (found.holds content told) _ _ _
    (Tries-from_prints (HasReport found.trace) _ _ _ _ _ (record { pairs = c.in-Ok.pairs.keys; races = found.races; text_is = refl; status_is = refl }) c.print_report.ensures.prints))

pub returns-in-Err-clause-answers : goal.returns-in-Err-clause-answers
returns-in-Err-clause-answers g c = λ content told. Answers-of _ (one_report content.held c.args.dir.now) _ _ _ (refused_of HasReport content.held c.args.dir.now _ _ _ (c.refuse.ensures.answers FORMAT content.held c.args.dir.now (c.in-Err.ensures.refused content told)))
