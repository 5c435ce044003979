use Rattle.race_laws.proofs.HeldMutexes.{held_exactly}
use Rattle.race_laws.proofs.mutexes.mutexes_are_held_from_lock_to_unlock.Goals as goal

pub returns : goal.returns
returns c = λ logs x mutex. held_exactly (logs x.path) x.index mutex
