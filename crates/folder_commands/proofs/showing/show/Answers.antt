use Rattle.std.proofs.Common.{ap, sym, ◌∙◌}
use Rattle.command_answer.proofs.Answering.{Answers-of}
use Rattle.log_format.specs.declared.format.TheConstants.{FORMAT}
use Rattle.folder_commands.specs.Show.{ShowsRecords}
use Rattle.folder_commands.proofs.Listed.{listed_tries}
use Rattle.folder_commands.proofs.OneAnswer.{one_listing}
use Rattle.folder_commands.proofs.FolderAnswers.{answered_of, refused_of}
use Rattle.folder_commands.proofs.showing.show.Goals as goal

pub returns-in-Ok-clause-answers : goal.returns-in-Ok-clause-answers
returns-in-Ok-clause-answers g c = λ content told.
    let trace = c.in-Ok.ensures.all.0 in
    let all = c.in-Ok.ensures.all.1 in
    let holds = all.holds content told in
    let now = ap (λ s. s.content) c.in-Ok.ensures.reads.same ∙ told in
    let rows = all.completes.rows_are ∙ sym c.rows.ensures in
    Answers-of _ (one_listing content.held c.args.dir.now) _ _ _
    (answered_of ShowsRecords content.held c.args.dir.now trace (all.well_formed content told) holds _ _ _
    (listed_tries c.list.result _ trace _ _ (c.list.ensures.done content now trace rows holds.logs) (c.list.ensures.refused content now trace rows holds.logs) c.status_of.ensures.done c.status_of.ensures.failed))

pub returns-in-Err-clause-answers : goal.returns-in-Err-clause-answers
returns-in-Err-clause-answers g c = λ content told. Answers-of _ (one_listing content.held c.args.dir.now) _ _ _ (refused_of ShowsRecords content.held c.args.dir.now _ _ _ (c.refuse.ensures.answers FORMAT content.held c.args.dir.now (c.in-Err.ensures.refused content told)))
