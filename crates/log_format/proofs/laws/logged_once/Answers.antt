use Rattle.log_format.specs.Format.{log_header}
use Rattle.log_format.proofs.Logs.{log_bytes-injective}
use Rattle.log_format.proofs.laws.logged_once.Goals as goal

pub returns : goal.returns
returns c = λ format. log_bytes-injective (log_header format)
