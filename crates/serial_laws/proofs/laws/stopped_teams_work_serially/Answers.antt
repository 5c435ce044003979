use Rattle.serial_laws.proofs.StoppedRoot.{stopped_work}
use Rattle.serial_laws.proofs.laws.stopped_teams_work_serially.Goals as goal

pub returns : goal.returns
returns c = stopped_work
