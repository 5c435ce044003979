use Rattle.pair_compare.proofs.AccessOrder.{accesses_ordered, accesses_unordered}
use Rattle.pair_compare.proofs.ordering.labels_order_accesses.Goals as goal

pub returns : goal.returns
returns c = record { before = accesses_ordered; concurrent = accesses_unordered }
