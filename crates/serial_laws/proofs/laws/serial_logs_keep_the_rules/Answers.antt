use Rattle.serial_laws.proofs.Certainty.{keeps_rules}
use Rattle.serial_laws.proofs.laws.serial_logs_keep_the_rules.Goals as goal

pub returns : goal.returns
returns c = keeps_rules
