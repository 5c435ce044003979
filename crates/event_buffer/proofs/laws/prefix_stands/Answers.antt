use Rattle.event_buffer.proofs.Logging.{has_prefix}
use Rattle.event_buffer.proofs.laws.prefix_stands.Goals as goal

pub returns : goal.returns
returns c = λ header b records h. has_prefix header b records h
