use Rattle.std.proofs.Common.{◌≡◌, None}
use Rattle.team_live.proofs.serving.serve.Given as goal

abbrev pub invariant-loop : goal.invariant-loop
invariant-loop g l = (l.place.table ≡ l.parcels) × (l.place.took ≡ None)
