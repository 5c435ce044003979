use Rattle.std.proofs.Common.{◌≡◌, ◌∙◌, ◌-◌, Err, ap, refl, sym, subst}
use Rattle.std.proofs.lemmas.Result.{IfOk-weaker}
use Rattle.log_format.specs.declared.format.TheConstants.{FORMAT}
use Rattle.race_model.specs.FirstBad.{row_of, rows_of}
use Rattle.race_laws.proofs.IndexRows.{index_once}
use Rattle.log_index.specs.declared.row.IndexAnswer.{IndexAnswer}
use Rattle.log_walk.specs.Walk.{TellsFirstBad}
use Rattle.log_walk.specs.declared.fault.WalkFault.{WalkFault}
use Rattle.command_answer.proofs.Answering.{Tries-from_made}
use Rattle.folder_commands.specs.Explain.{HasExplanation, race}
use Rattle.folder_commands.specs.Texts.{race_text}
use Rattle.folder_commands.proofs.Explained.{index_told, least_confirmed, row_at, task_at}
use Rattle.folder_commands.proofs.FolderAnswers.{answered_of, refused_of}
use Rattle.folder_commands.proofs.explaining.print_race.Goals as goal

pub returns-in-Ok-clause-answers : goal.returns-in-Ok-clause-answers
returns-in-Ok-clause-answers g c = λ content told trace low high holds good least.
    let found = c.args.found.now in
    let w = least.witness in
    let one = w.left.stands.task in
    let other = w.right.stands.task in
    let rows_are : c.deref.result.now ≡ rows_of trace =
    c.deref.ensures.value ∙ index_once content.held c.args.dir.now c.in-Ok.rows.items (rows_of trace) (c.in-Ok.ensures.found content told) holds.index in
    let first = task_at trace found.first_row w.left.place one w.left.row_is w.left.stands.listed in
    let second = task_at trace found.second_row w.right.place other w.right.row_is w.right.stands.listed in
    answered_of (HasExplanation low high) content.held c.args.dir.now trace good holds _ _ _
    (Tries-from_made (HasExplanation low high trace) c.text_of.result _ (race_text found one.path other.path) _ _ _
    (race found one other least (least_confirmed trace (low, high) found least) first second refl refl)
    (IfOk-weaker c.text_of.result _ _ (λ text is. is (row_of one) (row_of other) (row_at c.deref.result.now trace (found.first_row - 1) one rows_are first) (row_at c.deref.result.now trace (found.second_row - 1) other rows_are second)) c.text_of.ensures)
    c.print_made.ensures.prints c.print_made.ensures.silent)

pub returns-in-Err-clause-answers : goal.returns-in-Err-clause-answers
returns-in-Err-clause-answers g c = λ content told trace low high holds good least.
    let tells : TellsFirstBad FORMAT content.held c.args.dir.now c.from.result =
    subst (λ (e : WalkFault). TellsFirstBad FORMAT content.held c.args.dir.now e) (sym c.from.ensures)
    (index_told content.held c.args.dir.now trace c.in-Err.answer holds (λ is. c.in-Err.ensures.missing (ap (λ (a : IndexAnswer). Err a) is) content told) (λ n why is. c.in-Err.ensures.bad n why (ap (λ (a : IndexAnswer). Err a) is) content told)) in
    refused_of (HasExplanation low high) content.held c.args.dir.now _ _ _ (c.refuse.ensures.answers FORMAT content.held c.args.dir.now tells)
