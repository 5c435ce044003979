use Rattle.serial_laws.proofs.Certainty.{is_certain}
use Rattle.serial_laws.proofs.laws.serial_runs_without_races_are_certain.Goals as goal

pub returns : goal.returns
returns c = is_certain
