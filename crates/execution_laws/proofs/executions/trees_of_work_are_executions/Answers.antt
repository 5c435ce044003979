use Rattle.execution_laws.proofs.Whole.{execution}
use Rattle.execution_laws.proofs.executions.trees_of_work_are_executions.Goals as goal

pub returns : goal.returns
returns c = λ program layout depth root memory words sound all task within addresses fitted has. execution program layout depth root sound all task within memory words addresses fitted has
