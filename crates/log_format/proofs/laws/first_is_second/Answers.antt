use Rattle.log_format.proofs.Formats.{tabled_second}
use Rattle.log_format.proofs.laws.first_is_second.Goals as goal

pub returns : goal.returns
returns c = tabled_second
