use Rattle.run_cases.proofs.StoppedLane.{barrier_too_many, root_too_early}
use Rattle.run_cases.proofs.stopped.tasks_wait_for_others.Goals as goal

pub returns-clause-met : goal.returns-clause-met
returns-clause-met c = barrier_too_many

pub returns-clause-joined : goal.returns-clause-joined
returns-clause-joined c = root_too_early
