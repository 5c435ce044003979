use Rattle.std.proofs.Common.{◌≡◌, [], None}
use Rattle.shared_tests.proofs.tests.writers.give_many.Given as goal

abbrev pub invariant-loop-given : goal.invariant-loop-given
invariant-loop-given g l = (l.flusher.refused ≡ None) × (l.block ≡ record { size = l.flusher.size; bytes = [] })
