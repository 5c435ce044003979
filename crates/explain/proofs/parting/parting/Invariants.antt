use Rattle.std.proofs.Common.{◌≡◌, take}
use Rattle.explain.proofs.parting.parting.Given as goal

abbrev pub invariant-steps : goal.invariant-steps
invariant-steps l = record { shared : take l.level l.first ≡ take l.level l.second }
