use Rattle.race_laws.proofs.Formats.{keeps_second}
use Rattle.race_laws.proofs.folders.first_rules_are_second.Goals as goal

pub returns : goal.returns
returns c = keeps_second
