use Rattle.serial_model.proofs.Legal.{serial_history}
use Rattle.serial_model.proofs.serial.serial_work_has_a_history.Goals as goal

pub returns : goal.returns
returns c = serial_history
