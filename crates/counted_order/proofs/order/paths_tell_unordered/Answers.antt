use Rattle.counted_order.proofs.Paths.{unordered_parts, parts_unordered}
use Rattle.counted_order.proofs.order.paths_tell_unordered.Goals as goal

pub returns : goal.returns
returns c = λ logs x y tree x_there y_there. (unordered_parts logs x y tree x_there y_there, parts_unordered logs x y tree x_there y_there)
