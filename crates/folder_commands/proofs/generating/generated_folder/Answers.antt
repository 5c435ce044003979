use Rattle.std.proofs.Common.{codes}
use Rattle.folder_commands.proofs.OneSummary.{holds_run}
use Rattle.folder_commands.proofs.generating.generated_folder.Goals as goal

pub returns-in-Ok : goal.returns-in-Ok
returns-in-Ok c = holds_run (codes "g") c.args.rounds _ _ c.requires.0 c.requires.1 c.in-Ok.ensures.done
