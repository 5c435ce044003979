use Rattle.log_replay.proofs.DiffersOnce.{no_run}
use Rattle.log_replay.proofs.laws.tasks_that_differ_are_no_run.Goals as goal

pub returns : goal.returns
returns c = no_run
