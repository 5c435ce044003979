use Rattle.kernel_model.proofs.Growing.{value-grows, run-grows, task-grows}
use Rattle.kernel_model.proofs.growth.tasks_only_add_records.Goals as goal

pub returns : goal.returns
returns c = record { by_a_value = value-grows; by_statements = run-grows; by_a_task = task-grows }
