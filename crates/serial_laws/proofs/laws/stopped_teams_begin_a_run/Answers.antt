use Rattle.serial_laws.proofs.StoppedRoot.{stopped_execution, stopped_in_order, stopped_listing}
use Rattle.serial_laws.proofs.laws.stopped_teams_begin_a_run.Goals as goal

pub returns-clause-execution : goal.returns-clause-execution
returns-clause-execution c = stopped_execution

pub returns-clause-listed : goal.returns-clause-listed
returns-clause-listed c = stopped_listing

pub returns-clause-history : goal.returns-clause-history
returns-clause-history c = stopped_in_order
