-- What `confirm` answers: the first common byte of two records that race, or that they don't.
use Rattle.std.specs.Prelude.{◌≡◌, ℕ, List}
use Rattle.race_model.specs.Trace.{Trace}
use Rattle.command_answer.specs.declared.status.TheConstants.{DONE, RACES}
use Rattle.explain.specs.Witness.{IsConfirmed}
use Rattle.folder_commands.specs.Texts.{no_race_text, race_byte_text}

-- the two records that are named race, first at a byte; or they don't
pub data HasConfirmation (first_row first second_row second : ℕ) (trace : Trace) (status : ℕ) (text : List ℕ) : Type 0 where
  race : (byte : ℕ) → IsConfirmed trace first_row first second_row second byte → status ≡ RACES → text ≡ race_byte_text byte → HasConfirmation first_row first second_row second trace status text
  no_race : ((byte : ℕ) → IsConfirmed trace first_row first second_row second byte → ⊥) → status ≡ DONE → text ≡ no_race_text → HasConfirmation first_row first second_row second trace status text
