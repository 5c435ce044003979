use Rattle.counted_order.proofs.Edges.{happens_before_counted}
use Rattle.counted_order.proofs.Reaching.{counted_happens_before}
use Rattle.counted_order.proofs.Between.{between_unordered}
use Rattle.counted_order.proofs.Parted.{unordered_between}
use Rattle.counted_order.proofs.order.counts_are_happens_before.Goals as goal

pub returns : goal.returns
returns c = record {
  ordered = λ logs x y tree x_there y_there. (happens_before_counted logs x y, counted_happens_before logs tree x y x_there y_there);
  unordered = λ logs x y tree x_there y_there. (unordered_between logs x y tree x_there y_there, between_unordered logs x y);
}
