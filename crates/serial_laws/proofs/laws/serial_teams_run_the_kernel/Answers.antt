use Rattle.serial_laws.proofs.Root.{logs_run}
use Rattle.serial_laws.proofs.laws.serial_teams_run_the_kernel.Goals as goal

pub returns : goal.returns
returns c = λ layout program left logs words lawful tells log r. logs_run layout program lawful tells log left logs words r
