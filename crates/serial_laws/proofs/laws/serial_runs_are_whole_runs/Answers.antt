use Rattle.serial_laws.proofs.Certainty.{is_run, is_listed, is_ended}
use Rattle.serial_laws.proofs.laws.serial_runs_are_whole_runs.Goals as goal

pub returns-clause-run : goal.returns-clause-run
returns-clause-run c = is_run

pub returns-clause-listed : goal.returns-clause-listed
returns-clause-listed c = is_listed

pub returns-clause-ends : goal.returns-clause-ends
returns-clause-ends c = is_ended
