use Rattle.serial_run.proofs.Coming.{have_their_trace}
use Rattle.serial_run.proofs.laws.ended_tasks_have_their_trace.Goals as goal

pub returns : goal.returns
returns c = have_their_trace
