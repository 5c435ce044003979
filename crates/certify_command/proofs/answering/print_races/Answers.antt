use Rattle.command_answer.proofs.Answering.{Prints-after, Prints-broken}
use Rattle.certify_command.proofs.answering.print_races.Goals as goal

pub returns-in-Ok-clause-prints : goal.returns-in-Ok-clause-prints
returns-in-Ok-clause-prints g c = Prints-after _ _ _ _ _ _ _ c.in-Ok.ensures.done c.print.ensures.prints

pub returns-in-Err-clause-prints : goal.returns-in-Err-clause-prints
returns-in-Err-clause-prints g c = Prints-broken _ _ _ _ _ _ c.failure.ensures.failure c.in-Err.ensures.prefix
