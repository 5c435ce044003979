use Rattle.std.proofs.Common.{ℕ, ◌<◌, get_or, Contains}
use Rattle.mutex_set.proofs.held.Held.disjoint.Given as goal

abbrev pub invariant-loop-id : goal.invariant-loop-id
invariant-loop-id l = (k : ℕ) → k < l.id-index → Contains l.others (get_or l.id-items k 0) → ⊥
