use Rattle.serial_model.proofs.SerialHistory.{told_serially}
use Rattle.serial_model.proofs.serial.work_is_told_in_serial_order.Goals as goal

pub returns : goal.returns
returns c = told_serially
