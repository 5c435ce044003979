use Rattle.command_answer.proofs.Answering.{Prints-after, Prints-broken}
use Rattle.folder_commands.proofs.OneSummary.{Prints-counted}
use Rattle.folder_commands.proofs.generating.print_summary.Goals as goal

pub returns-in-Ok-clause-prints : goal.returns-in-Ok-clause-prints
returns-in-Ok-clause-prints g c =
    Prints-counted c.args.rounds _ _ _ _ _ _ _ c.accesses.ensures c.segments.ensures (Prints-after _ _ _ _ _ _ _ c.in-Ok.ensures.done c.print_report.ensures.prints)

pub returns-in-Err-clause-prints : goal.returns-in-Err-clause-prints
returns-in-Err-clause-prints g c =
    Prints-counted c.args.rounds _ _ _ _ _ _ _ c.accesses.ensures c.segments.ensures (Prints-broken _ _ _ _ _ _ c.failure.ensures.failure c.in-Err.ensures.prefix)
