use Rattle.writer_laws.proofs.Unordered.{root_ordered}
use Rattle.writer_laws.proofs.writing.root_is_ordered.Goals as goal

pub returns : goal.returns
returns c = λ logs x y tree x_there y_there at_root unordered. root_ordered logs x y tree x_there y_there unordered at_root
