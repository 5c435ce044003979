use Rattle.std.proofs.Common.{◌≡◌, All, false, take, []}
use Rattle.pair_compare.specs.Conflict.{AddsPairs, OneHas}
use Rattle.pair_compare.specs.Work.{HasFound}
use Rattle.pair_compare.proofs.team.gather.Given as goal

abbrev pub invariant-loop-worker : goal.invariant-loop-worker
invariant-loop-worker l = AddsPairs [] l.pairs.keys (OneHas HasFound (take l.worker-index l.team)) × All (λ worker. worker.refused ≡ false) (take l.worker-index l.team)
