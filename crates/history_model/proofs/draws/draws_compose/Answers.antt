use Rattle.history_model.proofs.DrawnNumbers.{draws_more, closed_more}
use Rattle.history_model.proofs.draws.draws_compose.Goals as goal

pub returns : goal.returns
returns c = record { draws = draws_more; closed = closed_more }
