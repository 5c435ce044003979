use Rattle.race_laws.proofs.KeptFolder.{kept_bad}
use Rattle.race_laws.proofs.folders.kept_rules_leave_no_bad_place.Goals as goal

pub returns : goal.returns
returns c = λ format files dir trace good holds. kept_bad files dir trace good holds
