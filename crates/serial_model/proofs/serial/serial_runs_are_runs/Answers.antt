use Rattle.serial_model.proofs.SerialRuns.{serial_run, serial_listing, serial_end}
use Rattle.serial_model.proofs.serial.serial_runs_are_runs.Goals as goal

pub returns-clause-run : goal.returns-clause-run
returns-clause-run c = serial_run

pub returns-clause-listed : goal.returns-clause-listed
returns-clause-listed c = serial_listing

pub returns-clause-ends : goal.returns-clause-ends
returns-clause-ends c = serial_end
