use Rattle.std.proofs.Common.{refl}
use Rattle.command_answer.proofs.Answering.{Answers-of, Tries-from_prints}
use Rattle.folder_commands.specs.Gen.{GenDue}
use Rattle.folder_commands.proofs.OneSummary.{one_summary}
use Rattle.folder_commands.proofs.generating.check_generated.Goals as goal

pub returns-in-Ok-clause-answers : goal.returns-in-Ok-clause-answers
returns-in-Ok-clause-answers g c = Answers-of (GenDue c.args.rounds) (one_summary c.args.rounds) _ _ _
    (Tries-from_prints (GenDue c.args.rounds) _ _ _ _ _ (record { pairs = c.in-Ok.pairs.keys; races = c.in-Ok.ensures; text_is = refl; status_is = refl }) c.print_summary.ensures.prints)
