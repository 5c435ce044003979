use Rattle.std.proofs.Common.{◌≡◌, None}
use Rattle.shared_tests.proofs.tests.parcels.serve.Given as goal

abbrev pub invariant-loop : goal.invariant-loop
invariant-loop g l = (l.place.table ≡ l.parcels) × (l.place.took ≡ None)
