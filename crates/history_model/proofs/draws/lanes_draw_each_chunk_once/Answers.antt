use Rattle.history_model.proofs.DrawnNumbers.{each_once}
use Rattle.history_model.proofs.draws.lanes_draw_each_chunk_once.Goals as goal

pub returns : goal.returns
returns c = each_once
