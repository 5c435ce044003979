use Rattle.serial_laws.proofs.LaneTasks.{root_ends}
use Rattle.serial_laws.proofs.laws.serial_teams_go_serially.Goals as goal

pub returns : goal.returns
returns c = λ layout program left logs words lawful fixed tells log. root_ends layout log program lawful fixed tells left logs words
