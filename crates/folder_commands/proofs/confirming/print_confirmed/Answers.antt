use Rattle.std.proofs.Common.{refl, sym, ◌∙◌}
use Rattle.command_answer.proofs.Answering.{Tries-from_made, Tries-from_prints}
use Rattle.folder_commands.specs.Confirm.{HasConfirmation, race, no_race}
use Rattle.folder_commands.specs.Texts.{race_byte_text}
use Rattle.folder_commands.proofs.Confirmed.{none_is_some}
use Rattle.folder_commands.proofs.confirming.print_confirmed.Goals as goal

pub returns-in-Some-clause-answers : goal.returns-in-Some-clause-answers
returns-in-Some-clause-answers g c = λ trace first_row first second_row second exact.
    Tries-from_made (HasConfirmation first_row first second_row second trace) c.race_byte.result _ (race_byte_text c.in-Some.byte) _ _ _
    (race c.in-Some.byte ((exact c.in-Some.byte).0 c.in-Some.is) refl refl) c.race_byte.ensures c.print_made.ensures.prints c.print_made.ensures.silent

pub returns-in-None-clause-answers : goal.returns-in-None-clause-answers
returns-in-None-clause-answers g c = λ trace first_row first second_row second exact.
    Tries-from_prints (HasConfirmation first_row first second_row second trace) _ _ _ _ _
    (no_race (λ byte is. none_is_some byte (sym c.in-None.is ∙ (exact byte).1 is)) refl refl) c.print.ensures.prints
