use Rattle.serial_steps.proofs.OneRun.{one_run}
use Rattle.serial_steps.proofs.lanes.serial_run_is_one.Goals as goal

pub returns : goal.returns
returns c = record { one = λ program room tasks others memory also end other lawful fixed. one_run program lawful fixed room tasks others memory also end other }
