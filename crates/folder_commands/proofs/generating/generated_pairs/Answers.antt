use Rattle.std.proofs.Common.{codes}
use Rattle.folder_commands.proofs.OneSummary.{run_pairs}
use Rattle.folder_commands.proofs.generating.generated_pairs.Goals as goal

pub returns-in-Ok : goal.returns-in-Ok
returns-in-Ok g c = run_pairs (codes "g") c.args.rounds _ _ c.in_ok-folder.ensures c.in-Ok.ensures.pairs
