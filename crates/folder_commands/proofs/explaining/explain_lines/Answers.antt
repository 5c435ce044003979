use Rattle.std.proofs.Common.{◌∙◌, Option, refl, ap, subst}
use Rattle.log_format.specs.declared.format.TheConstants.{FORMAT}
use Rattle.command_answer.proofs.Answering.{Tries-from_made}
use Rattle.explain.specs.Least.{FindsLeast}
use Rattle.explain.specs.declared.explaining.RacePair.{RacePair}
use Rattle.folder_commands.specs.Explain.{HasExplanation, no_race}
use Rattle.folder_commands.specs.Texts.{no_race_pair_text}
use Rattle.folder_commands.proofs.FolderAnswers.{answered_of, refused_of}
use Rattle.folder_commands.proofs.explaining.explain_lines.Goals as goal

pub returns-in-Ok-Some-clause-answers : goal.returns-in-Ok-Some-clause-answers
returns-in-Ok-Some-clause-answers g c = λ content told.
    let holds = c.in-Ok-Some.ensures.walks.holds content told in
    c.print_race.ensures.answers content (ap (λ s. s.content) c.in-Ok-Some.ensures.reads.same ∙ told) holds.0 c.args.low c.args.high holds.1
    (c.in-Ok-Some.ensures.walks.well_formed content told) (subst (λ (o : Option RacePair). FindsLeast holds.0 (c.args.low, c.args.high) o) c.in-Ok-Some.field-0-is (c.in-Ok-Some.ensures.explained content told holds.0 holds.1))

pub returns-in-Ok-None-clause-answers : goal.returns-in-Ok-None-clause-answers
returns-in-Ok-None-clause-answers g c = λ content told.
    let holds = c.in-Ok-None.ensures.walks.holds content told in
    answered_of (HasExplanation c.args.low c.args.high) content.held c.args.dir.now holds.0 (c.in-Ok-None.ensures.walks.well_formed content told) holds.1 _ _ _
    (Tries-from_made (HasExplanation c.args.low c.args.high holds.0) c.no_race_pair.result _ (no_race_pair_text c.args.low c.args.high) _ _ _
    (no_race ((c.in-Ok-None.ensures.pair content told holds.0 holds.1).0 c.in-Ok-None.field-0-is) refl refl) c.no_race_pair.ensures c.print_made.ensures.prints c.print_made.ensures.silent)

pub returns-in-Err-clause-answers : goal.returns-in-Err-clause-answers
returns-in-Err-clause-answers g c = λ content told.
    refused_of (HasExplanation c.args.low c.args.high) content.held c.args.dir.now _ _ _ (c.refuse.ensures.answers FORMAT content.held c.args.dir.now (c.in-Err.ensures.walks.refused content told))
