use Rattle.certainty_model.proofs.CertainRuns.{of_execution, begins_run}
use Rattle.certainty_model.proofs.certainty.executions_begin_the_certain_run.Goals as goal

pub returns : goal.returns
returns c = λ program run tasks address words lawful certain execution. begins_run program lawful run certain tasks (of_execution program tasks address words execution)
