use Rattle.run_cases.proofs.SerialLanes.{stops, is_too_long}
use Rattle.run_cases.proofs.stopped.a_serial_run_stops.Goals as goal

pub returns-clause-stops : goal.returns-clause-stops
returns-clause-stops c = stops

pub returns-clause-is_long : goal.returns-clause-is_long
returns-clause-is_long c = is_too_long
