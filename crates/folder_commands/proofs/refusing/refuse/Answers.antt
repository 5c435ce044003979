use Rattle.folder_commands.specs.Check.{IsRefusedFolder}
use Rattle.command_answer.proofs.Answering.{Tries-from_prints}
use Rattle.folder_commands.proofs.Upgrades.{printed_not_done}
use Rattle.folder_commands.proofs.refusing.refuse.Goals as goal

pub returns-in-Ok-Some-clause-answers : goal.returns-in-Ok-Some-clause-answers
returns-in-Ok-Some-clause-answers g c = λ format files dir tells.
    let placed = rw c.in-Ok-Some.field-0-is at c.in-Ok-Some.ensures.place in
    Tries-from_prints (IsRefusedFolder format files dir) _ _ _ _ _ (rw c.as_bytes.ensures.value (placed format files dir tells)) c.print.ensures.prints

pub returns-in-Ok-Some-clause-no_done : goal.returns-in-Ok-Some-clause-no_done
returns-in-Ok-Some-clause-no_done g c = printed_not_done _ _ _ _ _ c.print.ensures.prints (λ is. cc is)
