use Rattle.execution_laws.proofs.FinishedRun.{whole_folder}
use Rattle.execution_laws.proofs.finished.ended_executions_are_whole.Goals as goal

pub returns : goal.returns
returns c program tasks address words execution listing ended = whole_folder program tasks address words execution listing ended
