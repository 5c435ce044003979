use Rattle.serial_run.proofs.Coming.{stop_as_told}
use Rattle.serial_run.proofs.laws.stopped_tasks_stop_as_told.Goals as goal

pub returns : goal.returns
returns c = stop_as_told
