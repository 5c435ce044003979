use Rattle.history_laws.proofs.TaskTree.{tree_of_tasks, all_listed, logs_listed, regions_later}
use Rattle.history_laws.proofs.tasks.tasks_of_a_tree_of_work.Goals as goal

pub returns : goal.returns
returns c = record { tree = tree_of_tasks; logs = logs_listed; all = all_listed; later = regions_later }
