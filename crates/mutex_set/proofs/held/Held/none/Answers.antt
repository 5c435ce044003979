use Rattle.std.proofs.Common.{arith}
use Rattle.mutex_set.proofs.Sets.{distinct_none}
use Rattle.mutex_set.proofs.held.Held.none.Goals as goal

pub invariant_of-result : goal.invariant_of-result
invariant_of-result c = (omega arith, distinct_none)
