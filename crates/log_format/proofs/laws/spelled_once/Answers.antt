use Rattle.log_format.proofs.Records.{spells-injective}
use Rattle.log_format.proofs.laws.spelled_once.Goals as goal

pub returns : goal.returns
returns c = spells-injective
